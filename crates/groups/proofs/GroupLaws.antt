-- One number: what is put is taken, and what is taken was put.
use Rattle.megaco.proofs.NumberParts.{same_value, same_next}
use Rattle.std.specs.Prelude.{Some, None}
use Prim.Native.Nat.{ℕ, zero, suc, ◌+◌, ◌-◌, ◌*◌, ◌/◌, ◌%◌, ◌<◌, ◌≤◌}
use mathlib.Core.Path.{◌≡◌, refl, sym, ap}
use mathlib.Core.List.{List, [], ◌∷◌, ◌++◌}
use mathlib.Core.Bool.{Bool, true, false}
use native.Mathlib.Omega.{arith}
use lib.ListN.{length, drop}
use lib.Dec.{ltb, eqb}
use borrow.Author.Tests.{lt-ltb, le-ltb, ne_eqb, ltb-true, ltb-false, eqb-false}
use Rattle.base.specs.Pick.{pick}
use Rattle.groups.specs.Groups.{groups_f, most, further, take_f}
use Rattle.groups.specs.Rows.{Bytes}
use Rattle.protocol.specs.Types.{Number, number as got}

never : {A : Type 0} (v q : ℕ) → None ≡ got v q → A
never v q e = let z : ◌≡◌ {A = ℕ} 0 1 = cc in absurd (omega arith)

same : (v w p q : ℕ) → v ≡ w → p ≡ q → got v p ≡ got w q
same v w p q e f = rw (e, f)

-- what is put is taken
pub taken : (k n : ℕ) (s : List ℕ) (at : ℕ) → n < most k → take_f k (groups_f k n ++ s) at ≡ got n (at + length (groups_f k n))
unfolding groups_f take_f further pick
taken zero n s at h = rw (lt-ltb n 16 h)
taken (suc k) n s at h = by (ltb n 128) refl (λ l. taken k (n / 128) s (at + 1) l)
  where
    by : (t : Bool) → ltb n 128 ≡ t
        → (n / 128 < most k → take_f k (groups_f k (n / 128) ++ s) (at + 1) ≡ got (n / 128) (at + 1 + length (groups_f k (n / 128))))
        → take_f (suc k) (pick t (n ∷ []) ((128 + n % 128) ∷ groups_f k (n / 128)) ++ s) at
        ≡ got n (at + length (pick t (n ∷ []) ((128 + n % 128) ∷ groups_f k (n / 128))))
    by true e i = rw e
    by false e i =
        let a : 128 ≤ n = ltb-false n 128 e in
        let f : ltb (128 + n % 128) 128 ≡ false = le-ltb (128 + n % 128) 128 (omega arith) in
        let g : take_f k (groups_f k (n / 128) ++ s) (at + 1) ≡ got (n / 128) (at + 1 + length (groups_f k (n / 128))) = i (omega arith) in
        let z : eqb (n / 128) 0 ≡ false = ne_eqb (n / 128) 0 (λ q. omega arith) in
        rw (f, g, z) (same _ _ _ _ (omega arith) (omega arith))

-- what is taken was put
pub record Stands (k : ℕ) (l : List ℕ) (at v q : ℕ) : Type 0 where
  pub small : v < most k
  pub is : l ≡ groups_f k v ++ drop (length (groups_f k v)) l
  pub next : q ≡ at + length (groups_f k v)

one : (k b v at q : ℕ) (s : List ℕ) → b < most k → ltb b 128 ≡ true → got b (at + 1) ≡ got v q → Stands k (b ∷ s) at v q
unfolding groups_f pick
one zero b v at q s h t e =
    let x : v ≡ b = sym (same_value e) in
    let y : q ≡ at + 1 = sym (same_next e) in
    record { small = omega arith; is = ap (λ (w : ℕ). w ∷ s) (sym x); next = y }
one (suc k) b v at q s h t e =
    let x : v ≡ b = sym (same_value e) in
    let y : q ≡ at + 1 = sym (same_next e) in
    record { small = rw x h; is = rw (x, t); next = rw (x, t) y }

further_is : (k b w p v at q : ℕ) (s : List ℕ) → b < 256 → 128 ≤ b → Stands k s (at + 1) w p → pick (eqb w 0) None (got (b - 128 + 128 * w) p) ≡ got v q
    → Stands (suc k) (b ∷ s) at v q
unfolding groups_f pick
further_is k b w p v at q s h l i e = by (eqb w 0) refl e
  where
    by : (t : Bool) → eqb w 0 ≡ t → pick t None (got (b - 128 + 128 * w) p) ≡ got v q → Stands (suc k) (b ∷ s) at v q
    by true g f = never v q f
    by false g f =
        let x : b - 128 + 128 * w ≡ v = same_value f in
        let y : p ≡ q = same_next f in
        let z : w ≡ 0 → ⊥ = eqb-false w 0 g in
        let m : ltb v 128 ≡ false = le-ltb v 128 (omega arith) in
        let d : v / 128 ≡ w = omega arith in
        let r : 128 + v % 128 ≡ b = omega arith in
        record {
          small = omega (arith, i.small);
          is = rw (m, d, r) (ap (λ (x : List ℕ). b ∷ x) i.is);
          next = rw (m, d) (omega (arith, i.next));
        }

sixteen : (k : ℕ) → 16 ≤ most k
sixteen zero = omega arith
sixteen (suc k) = omega (arith, sixteen k)

pub stands : (k : ℕ) (l : List ℕ) (at v q : ℕ) → Bytes l → take_f k l at ≡ got v q → Stands k l at v q
unfolding take_f further pick
stands k [] at v q h e = never v q e
stands zero (b ∷ s) at v q h e = by (ltb b 16) refl e
  where
    by : (t : Bool) → ltb b 16 ≡ t → pick t (got b (at + 1)) None ≡ got v q → Stands zero (b ∷ s) at v q
    by true g f = one zero b v at q s (ltb-true b 16 g) (lt-ltb b 128 (omega (arith, ltb-true b 16 g))) f
    by false g f = never v q f
stands (suc k) (b ∷ s) at v q h e = by (ltb b 128) refl e (λ w p i. stands k s (at + 1) w p (record { byte = λ j. h.byte (suc j) }) i)
  where
    rest : ((w p : ℕ) → take_f k s (at + 1) ≡ got w p → Stands k s (at + 1) w p) → (t : Number) → take_f k s (at + 1) ≡ t → ltb b 128 ≡ false → further b t ≡ got v q → Stands (suc k) (b ∷ s) at v q
    rest _ None i g f = never v q f
    rest o (Some (w, p)) i g f =
        further_is k b w p v at q s (h.byte 0) (ltb-false b 128 g) (o w p i) f

    by : (t : Bool) → ltb b 128 ≡ t → pick t (got b (at + 1)) (further b (take_f k s (at + 1))) ≡ got v q
        → ((w p : ℕ) → take_f k s (at + 1) ≡ got w p → Stands k s (at + 1) w p) → Stands (suc k) (b ∷ s) at v q
    by true g f o = one (suc k) b v at q s (omega (arith, ltb-true b 128 g, sixteen k)) g f
    by false g f o = rest o (take_f k s (at + 1)) refl g f

-- The flows of a context, as a number: no bit of it is one that must be 0.
use Prim.Native.Nat.{ℕ, zero, suc, ◌+◌, ◌-◌, ◌*◌, ◌/◌, ◌%◌, ◌^◌, ◌<◌, ◌≤◌, min}
use mathlib.Core.Path.{◌≡◌, refl, sym, ap, ◌∙◌}
use mathlib.Core.List.{List, [], ◌∷◌, ◌++◌, append_assoc, append-nil}
use mathlib.Core.Bool.{Bool, true, false, not, ◌&&◌, and_assoc}
use native.Mathlib.Numerals.{add-one}
use native.Mathlib.Nat.{zero-add, add-zero, suc-add, pow-suc}
use native.Mathlib.Omega.{arith}
use lib.ListN.{length, get_or, take, drop, drop_of_length-le, length-drop}
use lib.Seq.{drop-cons, drop-drop}
use lib.Bits.{bit_and, and_step, and_zero_r}
use lib.Dec.{eqb}
use borrow.Author.Tests.{lt-ltb, eq-eqb, ne_eqb, eqb-true, eqb-false}
use Rattle.base.specs.Pick.{pick}
use Rattle.base.specs.Lists.{every}
use Rattle.megaco.specs.Square.{Square, bits, rows, square_of, may_flow, row_is_sound, rows_are_sound, square_is_sound}
use Rattle.square.proofs.SquareLaws.{NoneOf, down_from, large}
use Rattle.sound.specs.Parts.{flow_is_sound, flows_fit, forbidden_row, forbidden_rows, forbidden_bits}
use Rattle.sound.proofs.SoundLaws.{one_more, no_more, picked}

-- ---- two rows of bits that have no place in common
unfoldable apart : List Bool → List Bool → Bool
apart [] ks = true
apart (b ∷ bs) [] = true
apart (b ∷ bs) (k ∷ ks) = let r = apart bs ks in pick (b && k) false r

apart_both : (a b x y : List Bool) → length a ≡ length x → apart (a ++ b) (x ++ y) ≡ pick (apart a x) (apart b y) false
unfolding apart pick
apart_both [] b [] y l = refl
apart_both [] b (k ∷ x) y l = absurd (omega (arith, l))
apart_both (c ∷ a) b [] y l = absurd (omega (arith, l))
apart_both (c ∷ a) b (k ∷ x) y l = by (c && k) (apart_both a b x y (omega (arith, l)))
  where
    by : (t : Bool) → apart (a ++ b) (x ++ y) ≡ pick (apart a x) (apart b y) false
        → pick t false (apart (a ++ b) (x ++ y)) ≡ pick (pick t false (apart a x)) (apart b y) false
    by true e = refl
    by false e = e

-- of numbers
bit_test : (x y : ℕ) → x < 2 → y < 2 → eqb (min x y) 0 ≡ not (eqb x 1 && eqb y 1)
bit_test zero zero h k = refl
bit_test zero (suc zero) h k = refl
bit_test (suc zero) zero h k = refl
bit_test (suc zero) (suc zero) h k = refl
bit_test zero (suc (suc y)) h k = absurd (omega arith)
bit_test (suc (suc x)) y h k = absurd (omega arith)
bit_test (suc zero) (suc (suc y)) h k = absurd (omega arith)

doubled : (x y : ℕ) → eqb (x * 2 + y) 0 ≡ pick (eqb y 0) (eqb x 0) false
unfolding pick
doubled x zero = by (eqb x 0) refl
  where
    by : (t : Bool) → eqb x 0 ≡ t → eqb (x * 2 + 0) 0 ≡ t
    by true e = eq-eqb (x * 2 + 0) 0 (omega (arith, eqb-true x 0 e))
    by false e = let k = eqb-false x 0 e in ne_eqb (x * 2 + 0) 0 (λ q. k (omega (arith, q)))
doubled x (suc y) = rw (ne_eqb (suc y) 0 (λ q. omega (arith, q))) (ne_eqb (x * 2 + suc y) 0 (λ q. omega (arith, q)))

not_picked : (t r : Bool) → pick (not t) r false ≡ pick t false r
unfolding pick
not_picked true r = refl
not_picked false r = refl

and_apart : (n a k : ℕ) → k < 2 ^ n → eqb (bit_and a k) 0 ≡ apart (bits n a) (bits n k)
unfolding apart bits
and_apart zero a k h = let z : k ≡ 0 = omega arith in rw (z, and_zero_r a)
and_apart (suc n) a k h =
    rw (
      and_step a k,
      doubled (bit_and (a / 2) (k / 2)) (min (a % 2) (k % 2)),
      bit_test (a % 2) (k % 2) (omega arith) (omega arith),
      and_apart n (a / 2) (k / 2) (omega (arith, pow-suc 2 n)),
    )
    (not_picked (eqb (a % 2) 1 && eqb (k % 2) 1) (apart (bits n (a / 2)) (bits n (k / 2))))

-- ---- the bits of a number are the rows of its square, in a row
flat : Square → List Bool
flat [] = []
flat (r ∷ rs) = r ++ flat rs

bits_joined : (n m l h : ℕ) → l < 2 ^ n → bits (n + m) (l + h * 2 ^ n) ≡ bits n l ++ bits m h
unfolding bits
bits_joined zero m l h b = let e : l + h * 2 ^ 0 ≡ h = omega arith in rw (zero-add, e)
bits_joined (suc n) m l h b =
    let p : 2 ^ suc n ≡ 2 ^ n * 2 = pow-suc 2 n in
    let x : (l + h * 2 ^ suc n) % 2 ≡ l % 2 = rw p (omega arith) in
    let y : (l + h * 2 ^ suc n) / 2 ≡ l / 2 + h * 2 ^ n = rw p (omega arith) in
    rw (suc-add, x, y, bits_joined n m (l / 2) h (omega arith))

flat_rows : (n w : ℕ) → flat (rows n w) ≡ bits (8 * n) w
unfolding flat rows bits
flat_rows zero w = refl
flat_rows (suc n) w =
    let e : 8 * suc n ≡ 8 + 8 * n = omega arith in
    let f : w ≡ w % 256 + w / 256 * 256 = omega arith in
    rw (e, flat_rows n (w / 256)) (sym (bits_joined 8 (8 * n) (w % 256) (w / 256) (omega arith)) ∙ ap (bits (8 + 8 * n)) (sym f))

flat_both : (a b : Square) → flat (a ++ b) ≡ flat a ++ flat b
unfolding flat
flat_both [] b = refl
flat_both (r ∷ a) b = rw (flat_both a b) (sym (append_assoc r (flat a) (flat b)))

flat_square : (low high : ℕ) → low < 2 ^ 32 → flat (square_of low high) ≡ bits 64 (low + high * 4294967296)
unfolding square_of
flat_square low high h = flat_both (rows 4 low) (rows 4 high) ∙ rw (flat_rows 4 low, flat_rows 4 high) (sym (bits_joined 32 32 low high h))

-- ---- a square is sound where no place that must be 0 is set
Eights : Square → Type 0
Eights [] = Unit {0}
Eights (r ∷ q) = (length r ≡ 8) × Eights q

length_bits : (n w : ℕ) → length (bits n w) ≡ n
unfolding bits
length_bits zero w = refl
length_bits (suc n) w = rw (length_bits n (w / 2))

rows_eights : (n w : ℕ) (q : Square) → Eights q → Eights (rows n w ++ q)
unfolding rows Eights
rows_eights zero w q e = e
rows_eights (suc n) w q e = (length_bits 8 (w % 256), rows_eights n (w / 256) q e)

square_eights : (low high : ℕ) → Eights (square_of low high)
unfolding square_of Eights
square_eights low high = rows_eights 4 low (rows 4 high) (rw (append-nil (rows 4 high)) at (rows_eights 4 high [] tt))

length_square : (low high : ℕ) → length (square_of low high) ≡ 8
unfolding square_of rows
length_square low high = refl

row_apart : (m i j : ℕ) (bs : List Bool) → row_is_sound m i j bs ≡ apart bs (forbidden_row m i j (length bs))
unfolding row_is_sound apart forbidden_row
row_apart m i j [] = refl
row_apart m i j (b ∷ bs) = rw (row_apart m i (j + 1) bs)

length_forbidden : (m i j n : ℕ) → length (forbidden_row m i j n) ≡ n
unfolding forbidden_row
length_forbidden m i j zero = refl
length_forbidden m i j (suc n) = rw (length_forbidden m i (j + 1) n)

rows_apart : (m i : ℕ) (q : Square) → Eights q → rows_are_sound m i q ≡ apart (flat q) (forbidden_rows m i (length q))
unfolding rows_are_sound apart forbidden_rows flat Eights
rows_apart m i [] e = refl
rows_apart m i (r ∷ q) e =
    let l : length r ≡ length (forbidden_row m i 0 8) = e.0 ∙ sym (length_forbidden m i 0 8) in
    let k : row_is_sound m i 0 r ≡ apart r (forbidden_row m i 0 8) = row_apart m i 0 r ∙ ap (λ (n : ℕ). apart r (forbidden_row m i 0 n)) e.0 in
    rw (k, rows_apart m (i + 1) q e.1) (sym (apart_both r (flat q) (forbidden_row m i 0 8) (forbidden_rows m (i + 1) (length q)) l))

pub flow_by : (m low high k : ℕ) → low < 2 ^ 32 → high < 2 ^ 32 → k < 2 ^ 64 → bits 64 k ≡ forbidden_bits m
    → eqb (bit_and (low + high * 4294967296) k) 0 ≡ flow_is_sound m low high
unfolding flow_is_sound square_is_sound forbidden_bits
flow_by m low high k h g b e =
    and_apart 64 (low + high * 4294967296) k b
    ∙ rw (lt-ltb low (2 ^ 32) h, lt-ltb high (2 ^ 32) g, e, ← flat_square low high h)
    (ap (λ (n : ℕ). apart (flat (square_of low high)) (forbidden_rows m 0 n)) (sym (length_square low high)) ∙ sym (rows_apart m 0 (square_of low high) (square_eights low high)))

-- more members than eight leave no place unused
pub forbidden_full : (m : ℕ) → 8 ≤ m → forbidden_bits 8 ≡ forbidden_bits m
unfolding forbidden_bits forbidden_rows forbidden_row may_flow
forbidden_full m h =
    rw (
      lt-ltb 0 m (omega arith),
      lt-ltb 1 m (omega arith),
      lt-ltb 2 m (omega arith),
      lt-ltb 3 m (omega arith),
      lt-ltb 4 m (omega arith),
      lt-ltb 5 m (omega arith),
      lt-ltb 6 m (omega arith),
      lt-ltb 7 m (omega arith),
    )

eight_forbidden : bits 64 9241421688590303745 ≡ forbidden_bits 8
unfolding bits forbidden_bits forbidden_rows forbidden_row may_flow
eight_forbidden = refl

pub forbidden_rest : (m : ℕ) → NoneOf (down_from 8) m → bits 64 9241421688590303745 ≡ forbidden_bits m
forbidden_rest m n = eight_forbidden ∙ forbidden_full m (large 8 m n)

-- ---- the flows of each context in turn
pub flows_start : (ms fs : List ℕ) (a : ℕ) → flows_fit ms (a + 1) fs ≡ (true && flows_fit ms (a + 0 + 1) (drop (2 * 0) fs))
flows_start ms fs a = rw (add-zero a)

module _ (ms fs : List ℕ) (a i : ℕ) (b q : Bool) (inv : q ≡ (b && flows_fit ms (a + i + 1) (drop (2 * i) fs))) (l : length fs ≡ 32) where
  pub flows_on : (x : Bool) → i < 16 → x ≡ flow_is_sound (get_or ms (a + i + 1) 0) (get_or fs (2 * i) 0) (get_or fs (2 * i + 1) 0)
      → q ≡ ((b && x) && flows_fit ms (a + (i + 1) + 1) (drop (2 * (i + 1)) fs))
  unfolding flows_fit
  flows_on x h e =
      let n : 2 * (i + 1) ≡ suc (suc (2 * i)) = omega arith in
      let m : a + (i + 1) + 1 ≡ a + i + 1 + 1 = omega arith in
      let f : x ≡ flow_is_sound (get_or ms (a + i + 1) 0) (get_or fs (2 * i) 0) (get_or fs (suc (2 * i)) 0) = rw (add-one (2 * i)) at e in
      inv ∙ rw (drop-cons fs (2 * i) 0 (omega arith), drop-cons fs (suc (2 * i)) 0 (omega arith), ← f, n, m) (one_more b x _)

  pub flows_end : 16 ≤ i → b ≡ q
  unfolding flows_fit
  flows_end h = let z : length fs ≤ 2 * i = omega arith in sym (inv ∙ rw (drop_of_length-le fs z) (no_more b))

-- ---- the flows of some contexts together
-- those of the first n, and the others
flows_both : (ms : List ℕ) (n c : ℕ) (fs : List ℕ) → 2 * n ≤ length fs → flows_fit ms c fs ≡ (flows_fit ms c (take (2 * n) fs) && flows_fit ms (c + n) (drop (2 * n) fs))
unfolding flows_fit pick
flows_both ms zero c fs h = rw (add-zero c)
flows_both ms (suc n) c [] h = absurd (omega (arith, h))
flows_both ms (suc n) c (x ∷ []) h = absurd (omega (arith, h))
flows_both ms (suc n) c (x ∷ y ∷ fs) h =
    let d : 2 * suc n ≡ suc (suc (2 * n)) = omega arith in
    let k : c + suc n ≡ c + 1 + n = omega arith in
    rw (d, k, flows_both ms n (c + 1) fs (omega (arith, h))) (by (flow_is_sound (get_or ms c 0) x y))
  where
    by : (t : Bool) → let r = flows_fit ms (c + 1) (take (2 * n) fs) in let s = flows_fit ms (c + 1 + n) (drop (2 * n) fs) in
        pick t (r && s) false ≡ (pick t r false && s)
    by true = refl
    by false = refl

-- no flows are sound with any members
none_flow : (m : ℕ) → flow_is_sound m 0 0 ≡ true
unfolding flow_is_sound square_is_sound square_of rows bits rows_are_sound row_is_sound pick
none_flow m = refl

all_null_fit : (ms : List ℕ) (n c : ℕ) (fs : List ℕ) → length fs ≡ 2 * n → every (λ (w : ℕ). eqb w 0) fs ≡ true → flows_fit ms c fs ≡ true
unfolding flows_fit every pick
all_null_fit ms n c [] l z = refl
all_null_fit ms n c (x ∷ []) l z = absurd (omega (arith, l))
all_null_fit ms zero c (x ∷ y ∷ fs) l z = absurd (omega (arith, l))
all_null_fit ms (suc n) c (x ∷ y ∷ fs) l z =
    let p = picked (eqb x 0) (pick (eqb y 0) (every (λ (w : ℕ). eqb w 0) fs) false) z in
    let q = picked (eqb y 0) (every (λ (w : ℕ). eqb w 0) fs) p.1 in
    rw (eqb-true x 0 p.0, eqb-true y 0 q.0, none_flow (get_or ms c 0)) (all_null_fit ms n (c + 1) fs (omega (arith, l)) q.1)

pub none_fit : (ms : List ℕ) (c : ℕ) (fs : List ℕ) (t : Bool) → length fs ≡ 32 → t ≡ every (λ (w : ℕ). eqb w 0) fs → t ≡ true → true ≡ flows_fit ms c fs
none_fit ms c fs t l e u = sym (all_null_fit ms 16 c fs l (sym e ∙ u))

module _ (ms fs : List ℕ) (i : ℕ) (b q : Bool) (inv : q ≡ (b && flows_fit ms (16 * i + 1) (drop (32 * i) fs))) (l : length fs ≡ 256) where
  pub some_on : (x : Bool) → i < 8 → x ≡ flows_fit ms (16 * i + 1) (take (2 * (16 * i) + 32 - 2 * (16 * i)) (drop (2 * (16 * i)) fs)) → q ≡ ((b && x) && flows_fit ms (16 * (i + 1) + 1) (drop (32 * (i + 1)) fs))
  some_on x h e =
      let k : 2 * 16 ≤ length (drop (32 * i) fs) = rw (length-drop (32 * i) fs) (omega arith) in
      let c : 16 * (i + 1) + 1 ≡ 16 * i + 1 + 16 = omega arith in
      let d : 32 * (i + 1) ≡ 32 * i + 32 = omega arith in
      let a : 2 * (16 * i) ≡ 32 * i = omega arith in
      let n : 32 * i + 32 - 32 * i ≡ 32 = omega arith in
      let f : x ≡ flows_fit ms (16 * i + 1) (take 32 (drop (32 * i) fs)) = rw (a, n) at e in
      inv ∙ rw (flows_both ms 16 (16 * i + 1) (drop (32 * i) fs) k, ← f, drop-drop 32 (32 * i) fs, c, d) (sym (and_assoc b x _))

  pub some_end : 8 ≤ i → b ≡ q
  unfolding flows_fit
  some_end h = let z : length fs ≤ 32 * i = omega arith in sym (inv ∙ rw (drop_of_length-le fs z) (no_more b))

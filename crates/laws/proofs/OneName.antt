-- A termination has one name, letter case aside: the two names of a triple that are not the same mean two terminations.
use Prim.Native.Nat.{ℕ, ◌+◌, ◌*◌, ◌-◌, ◌/◌, ◌%◌, ◌≤◌, ◌<◌}
use mathlib.Core.Path.{◌≡◌, refl, sym, ap, ◌∙◌}
use mathlib.Core.Bool.{Bool, true, false, not, ◌&&◌}
use mathlib.Core.List.{List, [], ◌∷◌, ◌++◌}
use lib.Dec.{ltb, leb, eqb}
use borrow.Author.Tests.{eqb-true, eqb-false, leb-true, ltb-true, le-leb, lt-leb, not-true}
use native.Mathlib.Omega.{arith}
use Rattle.base.specs.Pick.{pick}
use Rattle.base.specs.Lists.{before, behind}
use Rattle.base.specs.Bytes.{text}
use Rattle.base.proofs.TestLaws.{clash, and_both, same_is, pick_of}
use Rattle.megaco.specs.Bytes.{slash, is_digit, capitals}
use Rattle.megaco.specs.Table.{channels, line_terminations, ephemerals}
use Rattle.megaco.specs.Names.{numeral, within, line_name, ephemeral_name, plain_name, line_range, wildcard_name, capital_name, name_of}
use Rattle.protocol.specs.Types.{Name, Termination, Root, Chosen, Unchosen, Wildcard, Unmatched, Unknown}

-- ---- a number has one numeral

-- a number of one or two digits
abbrev written : ℕ → List ℕ
written v = pick (leb v 9) ((v + 48) ∷ []) ((v / 10 + 48) ∷ (v % 10 + 48) ∷ [])

digit_both : (a : ℕ) → is_digit a ≡ true → (48 ≤ a) × (a ≤ 57)
unfolding is_digit
digit_both a e = let b = and_both (leb 48 a) (leb a 57) e in (leb-true 48 a b.0, leb-true a 57 b.1)

numeral_is : (x : List ℕ) (v : ℕ) → numeral x ≡ v → 0 < v → x ≡ written v
unfolding numeral pick
numeral_is [] v e h = absurd (omega (arith, e))
numeral_is (a ∷ []) v e h = by (is_digit a) refl e
  where
    by : (d : Bool) → is_digit a ≡ d → pick d (a - 48) 0 ≡ v → (a ∷ []) ≡ written v
    by true p e =
        let r = digit_both a p in
        let n : a ≡ v + 48 = omega (arith, r.0, e) in
        rw (le-leb v 9 (omega (arith, r.0, r.1, e))) (ap (λ (z : ℕ). z ∷ []) n)
    by false p e = absurd (omega (arith, e))
numeral_is (a ∷ b ∷ []) v e h = by (is_digit a && is_digit b && not (eqb a 48)) refl e
  where
    by : (d : Bool) → is_digit a && is_digit b && not (eqb a 48) ≡ d → pick d (10 * (a - 48) + (b - 48)) 0 ≡ v → (a ∷ b ∷ []) ≡ written v
    by true p e =
        let q = and_both (is_digit a && is_digit b) (not (eqb a 48)) p in
        let w = and_both (is_digit a) (is_digit b) q.0 in
        let r = digit_both a w.0 in
        let s = digit_both b w.1 in
        let z : a ≡ 48 → ⊥ = eqb-false a 48 (not-true (eqb a 48) q.1) in
        let o : 49 ≤ a = omega (arith, r.0, z) in
        let n : a ≡ v / 10 + 48 = omega (arith, r.0, s.0, s.1, e) in
        let m : b ≡ v % 10 + 48 = omega (arith, r.0, s.0, s.1, e) in
        rw (lt-leb v 9 (omega (arith, o, s.0, e))) (λ j. n j ∷ m j ∷ [])
    by false p e = absurd (omega (arith, e))
numeral_is (a ∷ b ∷ c ∷ r) v e h = absurd (omega (arith, e))

numeral_tells : (x y : List ℕ) (v : ℕ) → numeral x ≡ v → numeral y ≡ v → 0 < v → x ≡ y
numeral_tells x y v e f h = numeral_is x v e h ∙ sym (numeral_is y v f h)

-- ---- a text is told by what stands before and behind a byte that it has

split : (b : ℕ) (x : List ℕ) → (behind b x ≡ [] → ⊥) → x ≡ before b x ++ b ∷ behind b x
unfolding before behind pick
split b [] h = absurd (h refl)
split b (z ∷ x) h = by (eqb z b) refl (split b x) h
  where
    by : (d : Bool) → eqb z b ≡ d → ((behind b x ≡ [] → ⊥) → x ≡ before b x ++ b ∷ behind b x) → (pick d x (behind b x) ≡ [] → ⊥)
        → (z ∷ x) ≡ pick d [] (z ∷ before b x) ++ b ∷ pick d x (behind b x)
    by true e r h = ap (λ (n : ℕ). n ∷ x) (eqb-true z b e)
    by false e r h = ap (λ (l : List ℕ). z ∷ l) (r h)

rejoin : (b : ℕ) (x y : List ℕ) → (behind b x ≡ [] → ⊥) → before b x ≡ before b y → behind b x ≡ behind b y → x ≡ y
rejoin b x y h e f =
    split b x h ∙ (λ j. e j ++ b ∷ f j) ∙ sym (split b y (λ z. h (f ∙ z)))

-- ---- what a name of a termination looks like

data NameParts (n : ℕ) (x : List ℕ) (i : ℕ) : Type 0 where
  line : (l s : ℕ) → before slash x ≡ text "L" → numeral (before slash (behind slash x)) ≡ l → numeral (behind slash (behind slash x)) ≡ s
      → (0 < l) × (l ≤ n) → (0 < s) × (s ≤ channels) → i ≡ channels * (l - 1) + (s - 1) → NameParts n x i
  ephemeral : (k : ℕ) → before slash x ≡ text "R" → numeral (behind slash x) ≡ k → (0 < k) × (k ≤ ephemerals) → i ≡ line_terminations n + (k - 1) → NameParts n x i

abbrev Tells : ℕ → List ℕ → Name → Type 0
Tells n x y = (i : ℕ) → y ≡ Termination i → NameParts n x i

within_both : (x m : ℕ) → within x m ≡ true → (0 < x) × (x ≤ m)
unfolding within
within_both x m e = let b = and_both (ltb 0 x) (leb x m) e in (ltb-true 0 x b.0, leb-true x m b.1)

-- another name means none
abbrev is_one : Name → Bool
is_one (Termination i) = true
is_one Root = false
is_one Chosen = false
is_one Unchosen = false
is_one (Wildcard r) = false
is_one Unmatched = false
is_one Unknown = false

none : (n : ℕ) (x : List ℕ) (y : Name) → is_one y ≡ false → Tells n x y
none n x y o i e = absurd (clash (ap is_one (sym e) ∙ o))

number_of : (i j : ℕ) → Termination i ≡ Termination j → j ≡ i
number_of i j e = cc

line_tells : (n : ℕ) (x : List ℕ) → before slash x ≡ text "L"
    → Tells n x (line_name n (numeral (before slash (behind slash x))) (numeral (behind slash (behind slash x))))
unfolding line_name
line_tells n x p =
    pick_of (Tells n x) _
    (λ e i f. let b = and_both _ _ e in line _ _ p refl refl (within_both _ n b.0) (within_both _ channels b.1) (number_of _ i f))
    (λ _. none n x _ refl)

ephemeral_tells : (n : ℕ) (x : List ℕ) → before slash x ≡ text "R" → Tells n x (ephemeral_name n (numeral (behind slash x)))
unfolding ephemeral_name
ephemeral_tells n x p = pick_of (Tells n x) _ (λ e i f. ephemeral _ p refl (within_both _ ephemerals e) (number_of _ i f)) (λ _. none n x _ refl)

plain_tells : (n : ℕ) (x : List ℕ) → Tells n x (plain_name n x)
unfolding plain_name
plain_tells n x =
    pick_of (Tells n x) _ (λ e. line_tells n x (same_is (before slash x) (text "L") e))
    (λ _. pick_of (Tells n x) _ (λ e. ephemeral_tells n x (same_is (before slash x) (text "R") e)) (λ _. none n x _ refl))

name_tells : (n : ℕ) (x : List ℕ) → Tells n x (capital_name n x)
unfolding capital_name wildcard_name line_range
name_tells n x =
    pick_of T _ (λ _. none n x _ refl) (λ _. pick_of T _ (λ _. pick_of T _ (λ _. none n x _ refl) (λ _. none n x _ refl)) (λ _. pick_of T _
    (λ _. pick_of T _ (λ _. none n x _ refl) (λ _. pick_of T _ (λ _. none n x _ refl) (λ _. pick_of T _ (λ _. none n x _ refl) (λ _. pick_of T _ (λ _. none n x _ refl) (λ _. none n x _ refl)))))
    (λ _. plain_tells n x)))
  where
    T : Name → Type 0
    T = Tells n x

-- ---- so it has one

-- a numeral that is not 0 stands there
some_behind : (x : List ℕ) (v : ℕ) → numeral x ≡ v → 0 < v → x ≡ [] → ⊥
unfolding numeral
some_behind x v e h z = let y : numeral [] ≡ v = rw z at e in omega (arith, y)

some_before : (x : List ℕ) (v : ℕ) → numeral (before slash x) ≡ v → 0 < v → x ≡ [] → ⊥
unfolding before
some_before x v e h z = some_behind (before slash x) v e h (ap (before slash) z)

parts_same : (n : ℕ) (x y : List ℕ) (i : ℕ) → NameParts n x i → NameParts n y i → x ≡ y
parts_same n x y i (line l s p a b u v e) (line m r q c d w z f) =
    let k : l ≡ m = omega (arith, u.0, v.0, v.1, w.0, z.0, z.1, e, f) in
    let j : s ≡ r = omega (arith, u.0, v.0, v.1, w.0, z.0, z.1, e, f) in
    let first : before slash (behind slash x) ≡ before slash (behind slash y) = numeral_tells _ _ l a (c ∙ sym k) u.0 in
    let second : behind slash (behind slash x) ≡ behind slash (behind slash y) = numeral_tells _ _ s b (d ∙ sym j) v.0 in
    rejoin slash x y (some_before (behind slash x) l a u.0) (p ∙ sym q)
    (rejoin slash (behind slash x) (behind slash y) (some_behind (behind slash (behind slash x)) s b v.0) first second)
parts_same n x y i (line l s p a b u v e) (ephemeral k q c w f) = absurd (omega (arith, u.0, u.1, v.0, v.1, e, f))
parts_same n x y i (ephemeral k q c w f) (line l s p a b u v e) = absurd (omega (arith, u.0, u.1, v.0, v.1, e, f))
parts_same n x y i (ephemeral k p a u e) (ephemeral m q c w f) =
    let j : k ≡ m = omega (arith, u.0, w.0, e, f) in
    rejoin slash x y (some_behind (behind slash x) k a u.0) (p ∙ sym q) (numeral_tells (behind slash x) (behind slash y) k a (c ∙ sym j) u.0)

pub one_name : (n : ℕ) (x y : List ℕ) (i : ℕ) → name_of n x ≡ Termination i → name_of n y ≡ Termination i → capitals x ≡ capitals y
unfolding name_of
one_name n x y i e f = parts_same n (capitals x) (capitals y) i (name_tells n (capitals x) i e) (name_tells n (capitals y) i f)

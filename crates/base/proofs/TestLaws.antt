-- What tests tell: a choice by a test, tests joined, lists found the same.
use Prim.Native.Nat.{ℕ, zero, suc, ◌<◌, ◌≤◌}
use mathlib.Core.Path.{◌≡◌, refl, sym}
use mathlib.Core.Bool.{Bool, true, false, ◌&&◌, ◌||◌}
use mathlib.Core.List.{List, [], ◌∷◌}
use mathlib.Core.Logic.{⊎_elim}
use native.Mathlib.Nat.{eq-or-lt_of_le}
use native.Mathlib.Omega.{arith}
use lib.Dec.{eqb}
use borrow.Author.Tests.{eqb-true, eqb-false}
use mir.Val.{bool_byte}
use Rattle.base.specs.Pick.{pick}
use Rattle.base.specs.Lists.{same}

pub clash : true ≡ false → ⊥
clash e = eqb-false 0 0 e refl

pub and_both : (a b : Bool) → a && b ≡ true → (a ≡ true) × (b ≡ true)
and_both true b e = (refl, e)
and_both false b e = absurd (clash (sym e))

pub both_and : (a b : Bool) → a ≡ true → b ≡ true → a && b ≡ true
both_and a b p q = rw p q

pub or_neither : (a b : Bool) → a || b ≡ false → (a ≡ false) × (b ≡ false)
or_neither true b e = absurd (clash e)
or_neither false b e = (refl, e)

-- a test, and then another
pub pick_both : (a b : Bool) → pick a b false ≡ true → (a ≡ true) × (b ≡ true)
unfolding pick
pick_both true b e = (refl, e)
pick_both false b e = absurd (clash (sym e))

pub both_pick : (a b : Bool) → a ≡ true → b ≡ true → pick a b false ≡ true
unfolding pick
both_pick a b p q = rw p q

-- a test that must not hold, and then another
pub pick_other : (a b : Bool) → pick a false b ≡ true → (a ≡ false) × (b ≡ true)
unfolding pick
pick_other true b e = absurd (clash (sym e))
pick_other false b e = (refl, e)

pub other_pick : (a b : Bool) → a ≡ false → b ≡ true → pick a false b ≡ true
unfolding pick
other_pick a b p q = rw p q

-- what holds of both holds of the one picked
pub pick_of {ℓ} : {A : Type ℓ} (P : A → Type 0) (b : Bool) {x y : A} → (b ≡ true → P x) → (b ≡ false → P y) → P (pick b x y)
unfolding pick
pick_of P true h k = h refl
pick_of P false h k = k refl

pub not_holds : (b : Bool) → (b ≡ true → ⊥) → b ≡ false
not_holds true h = absurd (h refl)
not_holds false h = refl

pub and_left : (a b : Bool) → a && b ≡ true → a ≡ true
and_left true b e = refl
and_left false b e = absurd (clash (sym e))

pub and_right : (a b : Bool) → a && b ≡ true → b ≡ true
and_right true b e = e
and_right false b e = absurd (clash (sym e))

pub and_false : (a b : Bool) → a ≡ true → a && b ≡ false → b ≡ false
and_false true b h e = e
and_false false b h e = absurd (clash (sym h))

-- lists that are found the same are equal
pub same_is : (a b : List ℕ) → same a b ≡ true → a ≡ b
unfolding same
same_is [] [] e = refl
same_is [] (y ∷ ys) e = absurd (clash (sym e))
same_is (x ∷ xs) [] e = absurd (clash (sym e))
same_is (x ∷ xs) (y ∷ ys) e =
    let p : (eqb x y ≡ true) × (same xs ys ≡ true) = pick_both (eqb x y) (same xs ys) e in
    let q : x ≡ y = eqb-true x y p.0 in
    let r : xs ≡ ys = same_is xs ys p.1 in
    λ i. q i ∷ r i

-- a test of every number below a bound
unfoldable pub below : (ℕ → Bool) → ℕ → Bool
below p zero = true
below p (suc n) = let r = below p n in pick (p n) r false

pub below_at : (p : ℕ → Bool) (n i : ℕ) → below p n ≡ true → i < n → p i ≡ true
unfolding below
below_at p zero i e h = absurd (omega arith)
below_at p (suc n) i e h =
    let b = pick_both (p n) (below p n) e in
    ⊎_elim (λ l. rw l b.0) (λ l. below_at p n i b.1 l) (eq-or-lt_of_le {n = i} {m = n} (omega arith))

-- a test as a number
pub bit_small : (b : Bool) → bool_byte b ≤ 1
bit_small true = omega arith
bit_small false = omega arith

-- Putting a number, in the form in which `search` uses the laws.
use Prim.Native.Nat.{ℕ, zero, suc, ◌+◌, ◌-◌, ◌/◌, ◌%◌, ◌<◌, ◌≤◌}
use mathlib.Core.Path.{◌≡◌}
use mathlib.Core.List.{List, [], ◌∷◌}
use native.Mathlib.Omega.{arith}
use borrow.Author.Tests.{lt-ltb, le-ltb}
use Rattle.base.specs.Pick.{pick}
use Rattle.base.specs.Bytes.{◌then◌}
use Rattle.base.specs.Out.{Appended}
use Rattle.base.proofs.OutLaws.{after}
use Rattle.groups.specs.Groups.{groups_f, number, most}

pub some_left : (k n : ℕ) → 128 ≤ n → n < most k → 1 ≤ k
some_left zero n h l = absurd (omega arith)
some_left (suc k) n h l = omega arith

pub group_falls : (k n : ℕ) → 128 ≤ n → n < most k → n / 128 < most (k - 1)
group_falls zero n h l = absurd (omega arith)
group_falls (suc k) n h l = let z : suc k - 1 ≡ k = omega arith in rw z (omega arith)

pub group_last : (k n : ℕ) (o : List ℕ) (at : ℕ) (o' : List ℕ) (r : ℕ) → n < 128 → Appended o at (n ∷ []) o' r → Appended o at (groups_f k n) o' r
unfolding groups_f pick
group_last zero n o at o' r h f = f
group_last (suc k) n o at o' r h f = rw (lt-ltb n 128 h) f

pub group_more : (k n : ℕ) (o : List ℕ) (at : ℕ) (o₁ o₂ : List ℕ) (p r : ℕ) → 128 ≤ n → n < most k → Appended o at ((128 + n % 128) ∷ []) o₁ p
    → Appended o₁ p (groups_f (k - 1) (n / 128)) o₂ r → Appended o at (groups_f k n) o₂ r
unfolding groups_f pick ◌then◌
group_more zero n o at o₁ o₂ p r h l f g = absurd (omega arith)
group_more (suc k) n o at o₁ o₂ p r h l f g =
    let z : suc k - 1 ≡ k = omega arith in
    rw (le-ltb n 128 h) (after o at ((128 + n % 128) ∷ []) (groups_f k (n / 128)) o₁ o₂ p r f (rw z at g))

pub group_all : (n : ℕ) (o : List ℕ) (at : ℕ) (o' : List ℕ) (r : ℕ) → Appended o at (groups_f 4 n) o' r → Appended o at (number n) o' r
unfolding number
group_all n o at o' r f = f

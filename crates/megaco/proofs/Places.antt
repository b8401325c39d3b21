-- Binary digits of a number, and the places of the map.
use Prim.Native.Nat.{ℕ, zero, suc, ◌+◌, ◌-◌, ◌*◌, ◌/◌, ◌%◌, ◌^◌, ◌<◌, ◌≤◌}
use mathlib.Core.Path.{◌≡◌, refl, sym, ap, ◌∙◌}
use mathlib.Core.Logic.{◌≢◌}
use mathlib.Core.Bool.{Bool, true, false}
use mathlib.Core.List.{List, [], ◌∷◌, ◌++◌}
use native.Mathlib.Omega.{arith}
use native.Mathlib.Nat.{pow-succ', mul_assoc, mul_comm}
use lib.ListN.{length, get_or, set, length-set}
use lib.Seq.{get_or-set_same, get_or-set_other, set_comm}
use lib.Dec.{eqb}
use borrow.Author.Tests.{eq-eqb}
use Rattle.base.specs.Pick.{pick}
use Rattle.base.specs.Lists.{same, lowest_absent}
use Rattle.megaco.specs.Map.{digits, of_digits, digit, with_digit, marks, in_use}

-- ---- digits and numbers

pub length_digits : (k w : ℕ) → length (digits k w) ≡ k
unfolding digits
length_digits zero w = refl
length_digits (suc k) w = ap suc (length_digits k (w / 2))

-- the number of its own digits
pub digits_back : (k w : ℕ) → w < 2 ^ k → w ≡ of_digits (digits k w)
unfolding digits of_digits
digits_back zero w h = omega arith
digits_back (suc k) w h = let p : 2 ^ suc k ≡ 2 * 2 ^ k = pow-succ' 2 k in let q = digits_back k (w / 2) (omega arith) in omega (arith, q)

-- a list of binary digits
abbrev pub Binary : List ℕ → Type 0
Binary [] = Unit {0}
Binary (d ∷ ds) = (d < 2) × Binary ds

pub digits_binary : (k w : ℕ) → Binary (digits k w)
unfolding digits
digits_binary zero w = tt
digits_binary (suc k) w = (omega arith, digits_binary k (w / 2))

pub set_binary : (l : List ℕ) (b d : ℕ) → d < 2 → Binary l → Binary (set l b d)
set_binary [] b d h p = tt
set_binary (x ∷ l) zero d h p = (h, p.1)
set_binary (x ∷ l) (suc b) d h p = (p.0, set_binary l b d h p.1)

pub digits_of : (l : List ℕ) → Binary l → digits (length l) (of_digits l) ≡ l
unfolding digits of_digits
digits_of [] p = refl
digits_of (d ∷ l) p =
    let h : d < 2 = p.0 in
    let a : (d + 2 * of_digits l) % 2 ≡ d = omega arith in
    let b : (d + 2 * of_digits l) / 2 ≡ of_digits l = omega arith in
    rw (a, b, digits_of l p.1)

pub of_below : (l : List ℕ) → Binary l → of_digits l < 2 ^ length l
unfolding of_digits
of_below [] p = omega arith
of_below (d ∷ l) p = let b : d < 2 = p.0 in let h = of_below l p.1 in omega (arith, pow-succ' 2 (length l))

-- a word with one digit set has 32 bits
pub with_below : (b d w : ℕ) → d < 2 → with_digit b d w < 2 ^ 32
unfolding with_digit
with_below b d w h =
    let l : length (set (digits 32 w) b d) ≡ 32 = length-set (digits 32 w) b d ∙ length_digits 32 w in
    rw l at (of_below (set (digits 32 w) b d) (set_binary (digits 32 w) b d h (digits_binary 32 w)))

-- the digits of a word with one digit set
pub digits_with : (b d w : ℕ) → d < 2 → digits 32 (with_digit b d w) ≡ set (digits 32 w) b d
unfolding with_digit
digits_with b d w h =
    let l : length (set (digits 32 w) b d) ≡ 32 = length-set (digits 32 w) b d ∙ length_digits 32 w in
    ap (λ (k : ℕ). digits k (of_digits (set (digits 32 w) b d))) (sym l) ∙ digits_of (set (digits 32 w) b d) (set_binary (digits 32 w) b d h (digits_binary 32 w))

-- ---- one digit of a word

pub digit_same : (b d w : ℕ) → d < 2 → b < 32 → digit b (with_digit b d w) ≡ d
unfolding digit
digit_same b d w h k = rw (digits_with b d w h) (get_or-set_same (digits 32 w) b d 0 (omega (arith, length_digits 32 w)))

pub digit_other : (b c d w : ℕ) → d < 2 → c ≢ b → digit c (with_digit b d w) ≡ digit c w
unfolding digit
digit_other b c d w h n = rw (digits_with b d w h) (get_or-set_other (digits 32 w) b c d 0 n)

with_is : (b d w : ℕ) → with_digit b d w ≡ of_digits (set (digits 32 w) b d)
unfolding with_digit
with_is b d w = refl

pub digit_comm : (b c d e w : ℕ) → d < 2 → e < 2 → b ≢ c → with_digit c e (with_digit b d w) ≡ with_digit b d (with_digit c e w)
digit_comm b c d e w h k n =
    with_is c e (with_digit b d w) ∙ ap (λ (l : List ℕ). of_digits (set l c e)) (digits_with b d w h) ∙ ap of_digits (set_comm (digits 32 w) b c d e n)
    ∙ sym (with_is b d (with_digit c e w) ∙ ap (λ (l : List ℕ). of_digits (set l b d)) (digits_with c e w k))

-- ---- two halves

pub digits_joined : (k j l h : ℕ) → l < 2 ^ k → digits (k + j) (l + h * 2 ^ k) ≡ digits k l ++ digits j h
unfolding digits
digits_joined zero j l h e = let z : l + h * 1 ≡ h = omega arith in let y : zero + j ≡ j = omega arith in rw (z, y)
digits_joined (suc k) j l h e =
    let p : 2 ^ suc k ≡ 2 * 2 ^ k = pow-succ' 2 k in
    let q : h * 2 ^ suc k ≡ 2 * (h * 2 ^ k) = ap (λ (n : ℕ). h * n) p ∙ sym (mul_assoc h 2 _) ∙ ap (λ (n : ℕ). n * 2 ^ k) (mul_comm h 2) ∙ mul_assoc 2 h _ in
    let m : (l + h * 2 ^ suc k) % 2 ≡ l % 2 = omega arith in
    let d : (l + h * 2 ^ suc k) / 2 ≡ l / 2 + h * 2 ^ k = omega arith in
    let s : suc k + j ≡ suc (k + j) = omega arith in
    rw (s, m, d, digits_joined k j (l / 2) h (omega arith))

-- ---- marks

pub length_marks : (l : List ℕ) → length (marks l) ≡ length l
unfolding marks
length_marks [] = refl
length_marks (x ∷ l) = ap suc (length_marks l)

marks_binary : (l : List ℕ) → Binary (marks l)
unfolding marks pick
marks_binary [] = tt
marks_binary (x ∷ l) = (small (eqb x 0), marks_binary l)
  where
    small : (t : Bool) → pick t 0 1 < 2
    small true = omega arith
    small false = omega arith

-- the number of marks has them as its digits
pub digits_marks : (k : ℕ) (l : List ℕ) → length l ≡ k → digits k (of_digits (marks l)) ≡ marks l
digits_marks k l e = ap (λ (j : ℕ). digits j (of_digits (marks l))) (sym (length_marks l ∙ e)) ∙ digits_of (marks l) (marks_binary l)

mark_test : (t : Bool) → eqb (pick t 0 1) 0 ≡ t
unfolding pick
mark_test true = refl
mark_test false = refl

-- a walk over the marks is one over the words
pub walk_marks : (n : ℕ) (l : List ℕ) → lowest_absent n (marks l) ≡ lowest_absent n l
unfolding lowest_absent marks
walk_marks n [] = refl
walk_marks n (x ∷ l) = rw (mark_test (eqb x 0), walk_marks (n + 1) l)

pub count_marks : (l : List ℕ) → in_use (marks l) ≡ in_use l
unfolding in_use marks
count_marks [] = refl
count_marks (x ∷ l) = rw (mark_test (eqb x 0), count_marks l)

pub marks_at : (l : List ℕ) (k : ℕ) → k < length l → get_or (marks l) k 0 ≡ pick (eqb (get_or l k 0) 0) 0 1
unfolding marks
marks_at [] k h = absurd (omega arith)
marks_at (x ∷ l) zero h = refl
marks_at (x ∷ l) (suc k) h = marks_at l k (omega arith)

-- lists of one length that agree at every place are the same
pub same_at : (a b : List ℕ) → length a ≡ length b → ((k : ℕ) → k < length a → get_or a k 0 ≡ get_or b k 0) → same a b ≡ true
unfolding same pick
same_at [] [] l f = refl
same_at [] (y ∷ b) l f = absurd (omega (arith, l))
same_at (x ∷ a) [] l f = absurd (omega (arith, l))
same_at (x ∷ a) (y ∷ b) l f = rw (eq-eqb x y (f 0 (omega arith))) (same_at a b (omega (arith, l)) (λ k h. f (suc k) (omega arith)))

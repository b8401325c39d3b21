-- A free slot: while fewer than 16 are told, one of the numbers 1 to 16 is not.
use Prim.Native.Nat.{ℕ, zero, suc, ◌+◌, ◌-◌, ◌≤◌, ◌<◌}
use mathlib.Core.Path.{◌≡◌, refl, sym, ◌∙◌}
use mathlib.Core.Bool.{Bool, true, false}
use mathlib.Core.List.{List, [], ◌∷◌, ◌++◌}
use native.Mathlib.Omega.{arith}
use lib.Dec.{eqb}
use lib.ListN.{length, replicate}
use borrow.Author.Tests.{eqb-true, eqb-false, ne_eqb}
use Rattle.base.specs.Pick.{pick}
use Rattle.base.specs.Lists.{has, count}
use Rattle.base.proofs.TestLaws.{clash}
use Rattle.megaco.specs.Room.{lowest_free}

-- ---- a number stands in a list

pub has_cons : (n x : ℕ) (l : List ℕ) → (x ≡ n → ⊥) → has n l ≡ false → has n (x ∷ l) ≡ false
unfolding has pick
has_cons n x l h e = rw (ne_eqb x n h) e

pub has_both : (n x : ℕ) (l : List ℕ) → has n (x ∷ l) ≡ false → (x ≡ n → ⊥) × (has n l ≡ false)
unfolding has pick
has_both n x l e = by (eqb x n) refl e
  where
    by : (b : Bool) → eqb x n ≡ b → pick b true (has n l) ≡ false → (x ≡ n → ⊥) × (has n l ≡ false)
    by true f g = absurd (clash g)
    by false f g = (eqb-false x n f, g)

pub has_append : (n : ℕ) (xs ys : List ℕ) → has n xs ≡ false → has n ys ≡ false → has n (xs ++ ys) ≡ false
has_append n [] ys e f = f
has_append n (x ∷ xs) ys e f = let p = has_both n x xs e in has_cons n x (xs ++ ys) p.0 (has_append n xs ys p.1 f)

pub has_left : (n : ℕ) (xs ys : List ℕ) → has n (xs ++ ys) ≡ false → has n xs ≡ false
unfolding has
has_left n [] ys e = refl
has_left n (x ∷ xs) ys e = let p = has_both n x (xs ++ ys) e in has_cons n x xs p.0 (has_left n xs ys p.1)

pub has_zeros : (n k : ℕ) → 1 ≤ n → has n (replicate k 0) ≡ false
unfolding has
has_zeros n zero h = refl
has_zeros n (suc k) h = has_cons n 0 (replicate k 0) (λ e. omega arith) (has_zeros n k h)

has_count : (n : ℕ) (l : List ℕ) → has n l ≡ true → 1 ≤ count n l
unfolding has count pick
has_count n [] e = absurd (clash (sym e))
has_count n (x ∷ l) e = by (eqb x n) (has_count n l) e
  where
    by : (b : Bool) → (has n l ≡ true → 1 ≤ count n l) → pick b true (has n l) ≡ true → 1 ≤ pick b 1 0 + count n l
    by true h g = omega arith
    by false h g = omega (arith, h g)

-- ---- how many of the k numbers from n on stand in a list
total : ℕ → ℕ → List ℕ → ℕ
total zero n l = 0
total (suc k) n l = count n l + total k (n + 1) l

total_none : (k n : ℕ) → total k n [] ≡ 0
unfolding total count
total_none zero n = refl
total_none (suc k) n = omega (arith, total_none k (n + 1))

count_other : (n x : ℕ) (l : List ℕ) → (x ≡ n → ⊥) → count n (x ∷ l) ≡ count n l
unfolding count pick
count_other n x l h = rw (ne_eqb x n h) (omega arith)

count_most : (n x : ℕ) (l : List ℕ) → count n (x ∷ l) ≤ 1 + count n l
unfolding count pick
count_most n x l = by (eqb x n)
  where
    by : (b : Bool) → pick b 1 0 + count n l ≤ 1 + count n l
    by true = omega arith
    by false = omega arith

total_below : (k n x : ℕ) (l : List ℕ) → x < n → total k n (x ∷ l) ≡ total k n l
unfolding total
total_below zero n x l h = refl
total_below (suc k) n x l h = omega (arith, count_other n x l (λ e. omega arith), total_below k (n + 1) x l (omega arith))

total_one : (k n x : ℕ) (l : List ℕ) → total k n (x ∷ l) ≤ 1 + total k n l
unfolding total
total_one zero n x l = omega arith
total_one (suc k) n x l = by (eqb x n) refl (total_one k (n + 1) x l)
  where
    by : (b : Bool) → eqb x n ≡ b → total k (n + 1) (x ∷ l) ≤ 1 + total k (n + 1) l → count n (x ∷ l) + total k (n + 1) (x ∷ l) ≤ 1 + (count n l + total k (n + 1) l)
    by true e h = omega (arith, eqb-true x n e, count_most n x l, total_below k (n + 1) x l (omega (arith, eqb-true x n e)))
    by false e h = omega (arith, count_other n x l (eqb-false x n e))

total_zeros : (k n j : ℕ) → 1 ≤ n → total k n (replicate j 0) ≡ 0
total_zeros k n zero h = total_none k n
total_zeros k n (suc j) h = total_below k n 0 (replicate j 0) (omega arith) ∙ total_zeros k n j h

total_most : (k n j : ℕ) (h : List ℕ) → 1 ≤ n → total k n (h ++ replicate j 0) ≤ length h
total_most k n j [] l = omega (arith, total_zeros k n j l)
total_most k n j (x ∷ h) l = omega (arith, total_one k n x (h ++ replicate j 0), total_most k n j h l)

-- ---- the lowest that is free

free_all : (k n : ℕ) (l : List ℕ) → lowest_free k n l ≡ n + k → k ≤ total k n l
unfolding lowest_free total pick
free_all zero n l e = omega arith
free_all (suc k) n l e = by (has n l) refl (free_all k (n + 1) l) e
  where
    by : (b : Bool) → has n l ≡ b → (lowest_free k (n + 1) l ≡ n + 1 + k → k ≤ total k (n + 1) l) → pick b (lowest_free k (n + 1) l) n ≡ n + suc k → suc k ≤ count n l + total k (n + 1) l
    by true f h g = omega (arith, has_count n l f, h (omega arith))
    by false f h g = absurd (omega arith)

-- it is in reach, and stands nowhere if it is one of the k
pub record Lowest (k n : ℕ) (l : List ℕ) (x : ℕ) : Type 0 where
  pub low : n ≤ x
  pub high : x ≤ n + k
  pub free : x < n + k → has x l ≡ false

lowest : (k n : ℕ) (l : List ℕ) → Lowest k n l (lowest_free k n l)
unfolding lowest_free pick
lowest zero n l = record { low = omega arith; high = omega arith; free = λ h. absurd (omega arith) }
lowest (suc k) n l = by (has n l) refl (lowest k (n + 1) l)
  where
    by : (b : Bool) → has n l ≡ b → Lowest k (n + 1) l (lowest_free k (n + 1) l) → Lowest (suc k) n l (pick b (lowest_free k (n + 1) l) n)
    by true e h = record { low = omega (arith, h.low); high = omega (arith, h.high); free = λ g. h.free (omega arith) }
    by false e h = record { low = omega arith; high = omega arith; free = λ g. e }

-- fewer than 16 told: one of the 16 slots is free
pub free_slot : (h : List ℕ) (j : ℕ) → length h < 16
    → (1 ≤ lowest_free 16 1 (h ++ replicate j 0)) × (lowest_free 16 1 (h ++ replicate j 0) ≤ 16) × (has (lowest_free 16 1 (h ++ replicate j 0)) h ≡ false)
free_slot h j s =
    let l : List ℕ = h ++ replicate j 0 in
    let a = lowest 16 1 l in
    let b : lowest_free 16 1 l ≤ 16 = below (lowest_free 16 1 l) a.high (λ e. free_all 16 1 l e) (total_most 16 1 j h (omega arith)) in
    (a.low, b, has_left (lowest_free 16 1 l) h (replicate j 0) (a.free (omega arith)))
  where
    below : (x : ℕ) → x ≤ 17 → (x ≡ 17 → 16 ≤ total 16 1 (h ++ replicate j 0)) → total 16 1 (h ++ replicate j 0) ≤ length h → x ≤ 16
    below x e f g = by (eqb x 17) refl
      where
        by : (b : Bool) → eqb x 17 ≡ b → x ≤ 16
        by true k = absurd (omega (arith, f (eqb-true x 17 k)))
        by false k = omega (arith, eqb-false x 17 k)

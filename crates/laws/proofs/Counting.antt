-- How many stand in a context, and the lowest absent number.
use Prim.Native.Nat.{ℕ, zero, suc, ◌+◌, ◌<◌, min}
use mathlib.Core.Path.{◌≡◌, refl, sym, ap, ◌∙◌}
use mathlib.Core.Bool.{Bool, true, false}
use mathlib.Core.List.{List, [], ◌∷◌}
use lib.ListN.{length, get_or, set, take, length-set}
use lib.Seq.{get_or-set_same, get_or-set_other}
use lib.Dec.{eqb}
use borrow.Author.Tests.{eqb-true, eqb-false, eq-eqb}
use native.Mathlib.Omega.{arith}
use Rattle.base.specs.Pick.{pick}
use Rattle.base.specs.Lists.{count, lowest_absent}
use Rattle.megaco.specs.Table.{terminations, words, fitted, ctx, get, known, members, place_in}
use Rattle.megaco.proofs.Sizes.{fitted_same}
use Rattle.megaco.proofs.Regions.{members_first, place_first}

-- 1 where a test holds
abbrev pub one : Bool → ℕ
one b = pick b 1 0

-- words that agree on who equals c are counted alike
pub count_agree : (k c : ℕ) (t u : List ℕ) → length t ≡ length u
    → ((i : ℕ) → i < k → eqb (get_or t i 0) c ≡ eqb (get_or u i 0) c) → count c (take k t) ≡ count c (take k u)
unfolding count
count_agree zero c t u l h = refl
count_agree (suc k) c [] [] l h = refl
count_agree (suc k) c [] (y ∷ ys) l h = absurd (omega (arith, l))
count_agree (suc k) c (x ∷ xs) [] l h = absurd (omega (arith, l))
count_agree (suc k) c (x ∷ xs) (y ∷ ys) l h =
    let e : length xs ≡ length ys = omega (arith, l) in
    let r : count c (take k xs) ≡ count c (take k ys) = count_agree k c xs ys e (λ i b. h (suc i) (omega arith)) in
    let p : eqb x c ≡ eqb y c = h 0 (omega arith) in
    rw (p, r)

-- a counted word changes
pub count_set : (k c i v : ℕ) (t : List ℕ) → i < k → i < length t
    → count c (take k (set t i v)) + one (eqb (get_or t i 0) c) ≡ count c (take k t) + one (eqb v c)
unfolding count
count_set zero c i v t h l = absurd (omega arith)
count_set (suc k) c i v [] h l = absurd (omega arith)
count_set (suc k) c zero v (x ∷ xs) h l = omega arith
count_set (suc k) c (suc i) v (x ∷ xs) h l = omega (arith, count_set k c i v xs (omega arith) (omega arith))

-- a termination that stands in c is counted behind those before it
pub counted_before : (k c i : ℕ) (t : List ℕ) → i < k → i < length t → get_or t i 0 ≡ c → count c (take i t) < count c (take k t)
unfolding count pick
counted_before zero c i t h l e = absurd (omega arith)
counted_before (suc k) c i [] h l e = absurd (omega arith)
counted_before (suc k) c zero (x ∷ xs) h l e = rw (eq-eqb x c e) (omega arith)
counted_before (suc k) c (suc i) (x ∷ xs) h l e = omega (arith, counted_before k c i xs (omega arith) (omega arith) e)

-- ---- members of a context

pub members_same : (c : ℕ) (t u : List ℕ) → length u ≡ length t → ((j : ℕ) → j < terminations (fitted t) → get u (ctx j) ≡ get t (ctx j)) → members c u ≡ members c t
members_same c t u l h =
    rw (members_first u c, members_first t c, fitted_same u t l) (count_agree (terminations (fitted t)) c u t l (λ j b. ap (λ (z : ℕ). eqb z c) (h j b)))

-- a termination goes to x
pub members_moved : (c i x : ℕ) (t u : List ℕ) → i < terminations (fitted t) → length t ≡ words (fitted t) → length u ≡ length t
    → ((j : ℕ) → j < terminations (fitted t) → get u (ctx j) ≡ pick (eqb i j) x (get t (ctx j)))
    → members c u + one (eqb (get t (ctx i)) c) ≡ members c t + one (eqb x c)
unfolding pick
members_moved c i x t u b l k h =
    let n : ℕ = terminations (fitted t) in
    let e : members c u ≡ count c (take n (set t i x)) =
    rw (members_first u c, fitted_same u t k) (count_agree n c u (set t i x) (k ∙ sym (length-set t i x)) (λ j d. ap (λ (z : ℕ). eqb z c) (h j d ∙ at j (eqb i j) refl))) in
    omega (arith, e, members_first t c, count_set n c i x t b (omega arith))
  where
    at : (j : ℕ) (y : Bool) → eqb i j ≡ y → pick y x (get_or t j 0) ≡ get_or (set t i x) j 0
    at j true e = rw (← eqb-true i j e) (sym (get_or-set_same t i x 0 (omega arith)))
    at j false e = sym (get_or-set_other t i j x 0 (λ q. eqb-false i j e (sym q)))

-- a termination that stands in c is a member
pub member : (i : ℕ) (t : List ℕ) → i < terminations (fitted t) → length t ≡ words (fitted t) → 0 < members (get t (ctx i)) t
member i t h l = omega (arith, members_first t (get t (ctx i)), counted_before (terminations (fitted t)) (get t (ctx i)) i t h (omega arith) refl)

module _ (c : ℕ) (t : List ℕ) (l : length t ≡ words (fitted t)) (k : known c ≡ true) where
  -- its place, counted
  pub place_counted : (i : ℕ) → i < terminations (fitted t) → place_in c i t ≡ count c (take i t)
  place_counted i h = let m : min i (terminations (fitted t)) ≡ i = omega arith in place_first t c i k ∙ ap (λ (j : ℕ). count c (take j t)) m

  -- is before the last of the context
  pub place_low : (i : ℕ) → i < terminations (fitted t) → get t (ctx i) ≡ c → place_in c i t < members c t
  place_low i h e = rw (place_counted i h, members_first t c) (counted_before (terminations (fitted t)) c i t h (omega (arith, l)) e)

-- ---- the lowest absent number

-- m, counted from n, is the number of a 0
pub record Absent (l : List ℕ) (n m : ℕ) : Type 0 where
  pub place : ℕ
  pub within : place < length l
  pub number : m ≡ n + place
  pub empty : get_or l place 0 ≡ 0

pub lowest : (n : ℕ) (l : List ℕ) → 0 < lowest_absent n l → Absent l n (lowest_absent n l)
unfolding lowest_absent pick
lowest n [] h = absurd (omega arith)
lowest n (x ∷ xs) h = by (eqb x 0) refl (lowest (n + 1) xs) h
  where
    by : (b : Bool) → eqb x 0 ≡ b → (0 < lowest_absent (n + 1) xs → Absent xs (n + 1) (lowest_absent (n + 1) xs)) → 0 < pick b n (lowest_absent (n + 1) xs)
        → Absent (x ∷ xs) n (pick b n (lowest_absent (n + 1) xs))
    by true e r h = record { place = 0; within = omega arith; number = omega arith; empty = eqb-true x 0 e }
    by false e r h =
        let a = r h in
        record { place = suc a.place; within = omega arith; number = omega arith; empty = a.empty }

-- What stands in a list, and the tests that tell it.
use Prim.Native.Nat.{ℕ, zero, suc, ◌<◌}
use mathlib.Core.Path.{◌≡◌, refl, sym, ap, ◌∙◌}
use mathlib.Core.Bool.{Bool, true, false, not, ◌||◌}
use mathlib.Core.List.Memᴰ
use mathlib.Core.List.{List, [], ◌∷◌}
use mathlib.Core.Logic.{◌↔◌, ◌⊎◌, inl, inr}
use mathlib.Core.Option.{Option, none, some}
use lib.Dec.{eqb}
use borrow.Author.Tests.{eqb-true, eq-eqb, ne_eqb, not-true}
use native.Mathlib.Omega.{arith}
use Rattle.base.specs.Pick.{pick}
use Rattle.base.specs.Lists.{has}
use Rattle.base.proofs.TestLaws.{clash, and_left, and_right, not_holds}
use Rattle.laws.specs.Membership.{◌∈◌, all?, none_shared?, only_zero_shared?, ahead, collect}

-- ---- a number in a list

pub has_in : (b : ℕ) (l : List ℕ) → has b l ≡ true → b ∈ l
unfolding has
has_in b [] e = absurd (clash (sym e))
has_in b (x ∷ xs) e = by (eqb x b) refl e (has_in b xs)
  where
    by : (s : Bool) → eqb x b ≡ s → pick s true (has b xs) ≡ true → (has b xs ≡ true → b ∈ xs) → b ∈ (x ∷ xs)
    by true q e f = Memᴰ.head (sym (eqb-true x b q))
    by false q e f = Memᴰ.tail (f (unfold pick in e))

pub in_has : (b : ℕ) (l : List ℕ) → b ∈ l → has b l ≡ true
unfolding has pick
in_has b _ (Memᴰ.head {x = x} {xs = xs} p) = rw (eq-eqb x b (sym p))
in_has b _ (Memᴰ.tail {x = x} {xs = xs} m) = by (eqb x b) (in_has b xs m)
  where
    by : (s : Bool) → has b xs ≡ true → pick s true (has b xs) ≡ true
    by true e = refl
    by false e = e

pub has_not : (b : ℕ) (l : List ℕ) → (b ∈ l → ⊥) → has b l ≡ false
has_not b l h = not_holds (has b l) (λ e. h (has_in b l e))

pub not_has : (b : ℕ) (l : List ℕ) → has b l ≡ false → b ∈ l → ⊥
not_has b l e m = clash (sym (in_has b l m) ∙ e)

-- ---- a test of every element

-- the element ahead of the list, as the recursion has it
told_is : {A : Type 0} (p : A → Bool) (a : A) (l : List A) → all? p l ≡ true → a ∈ l → p a ≡ true
unfolding all?
told_is p a _ e (Memᴰ.head {x = x} {xs = xs} q) = ap p q ∙ and_left (p x) (all? p xs) e
told_is p a _ e (Memᴰ.tail {x = x} {xs = xs} m) = told_is p a xs (and_right (p x) (all? p xs) e) m

pub all_is : {A : Type 0} (p : A → Bool) (l : List A) → all? p l ≡ true → (a : A) → a ∈ l → p a ≡ true
all_is p l e a m = told_is p a l e m

pub is_all : {A : Type 0} (p : A → Bool) (l : List A) → ((a : A) → a ∈ l → p a ≡ true) → all? p l ≡ true
unfolding all?
is_all p [] h = refl
is_all p (x ∷ xs) h = rw (h x (Memᴰ.head refl), is_all p xs (λ a m. h a (Memᴰ.tail m)))

-- ---- two lists of numbers

pub none_shared : (xs ys : List ℕ) → none_shared? xs ys ≡ true ↔ ((c : ℕ) → c ∈ xs → c ∈ ys → ⊥)
unfolding none_shared?
none_shared xs ys = (
  λ e c m. not_has c ys (not-true (has c ys) (all_is (λ c. not (has c ys)) xs e c m)),
  λ h. is_all (λ c. not (has c ys)) xs (λ c m. rw (has_not c ys (h c m))),
)

pub only_zero_shared : (xs ys : List ℕ) → only_zero_shared? xs ys ≡ true ↔ ((c : ℕ) → 0 < c → c ∈ xs → c ∈ ys → ⊥)
unfolding only_zero_shared?
only_zero_shared xs ys = (
  λ e c h m. not_has c ys (above c h (all_is (λ c. eqb c 0 || not (has c ys)) xs e c m)),
  λ h. is_all (λ c. eqb c 0 || not (has c ys)) xs (λ c m. any c (λ z. has_not c ys (h c z m))),
)
  where
    above : (c : ℕ) → 0 < c → eqb c 0 || not (has c ys) ≡ true → has c ys ≡ false
    above c h e = not-true (has c ys) (rw (ne_eqb c 0 (omega arith)) at e)

    any : (c : ℕ) → (0 < c → has c ys ≡ false) → eqb c 0 || not (has c ys) ≡ true
    any zero f = refl
    any (suc c) f = rw (ne_eqb (suc c) 0 (omega arith), f (omega arith))

-- ---- the numbers that the elements of a list give

ahead_later : (o : Option ℕ) (l : List ℕ) (i : ℕ) → i ∈ l → i ∈ ahead o l
unfolding ahead
ahead_later none l i m = m
ahead_later (some j) l i m = Memᴰ.tail m

ahead_either : (o : Option ℕ) (l : List ℕ) (i : ℕ) → i ∈ ahead o l → (o ≡ some i) ⊎ (i ∈ l)
unfolding ahead
ahead_either none l i m = inr m
ahead_either (some j) l i (Memᴰ.head e) = inl (ap some (sym e))
ahead_either (some j) l i (Memᴰ.tail m) = inr m

-- the element ahead of the list, as the recursion has it
given_in : {A : Type 0} (f : A → Option ℕ) (a : A) (l : List A) (i : ℕ) → a ∈ l → f a ≡ some i → i ∈ collect f l
unfolding collect
given_in f a _ i (Memᴰ.head {x = x} {xs = xs} p) e = rw (sym (ap f p) ∙ e) (unfold ahead in Memᴰ.head refl)
given_in f a _ i (Memᴰ.tail {x = x} {xs = xs} m) e = ahead_later (f x) (collect f xs) i (given_in f a xs i m e)

pub in_collect : {A : Type 0} (f : A → Option ℕ) (l : List A) (a : A) (i : ℕ) → a ∈ l → f a ≡ some i → i ∈ collect f l
in_collect f l a i m e = given_in f a l i m e

pub collect_in : {A : Type 0} (f : A → Option ℕ) (l : List A) (i : ℕ) → i ∈ collect f l → (a : A) × (a ∈ l) × (f a ≡ some i)
unfolding collect
collect_in f [] i m = absurd (Memᴰ.not-nil m)
collect_in {A} f (x ∷ xs) i m = by (ahead_either (f x) (collect f xs) i m) (collect_in f xs i)
  where
    by : (f x ≡ some i) ⊎ (i ∈ collect f xs) → (i ∈ collect f xs → (a : A) × (a ∈ xs) × (f a ≡ some i)) → (a : A) × (a ∈ (x ∷ xs)) × (f a ≡ some i)
    by (inl e) g = (x, Memᴰ.head refl, e)
    by (inr m) g = let r = g m in (r.0, Memᴰ.tail r.1, r.2)

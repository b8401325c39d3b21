-- An array made place by place, by a closure that stays as it is.
use Prim.Native.Nat.{ℕ, zero, suc, ◌+◌, ◌/◌, ◌%◌, ◌^◌, ◌<◌, ◌≤◌}
use mathlib.Core.Path.{◌≡◌, refl, sym, ap, subst, ◌∙◌}
use mathlib.Core.List.{List, [], ◌∷◌}
use mathlib.Core.Bool.{Bool, true, false}
use native.Mathlib.Omega.{arith}
use native.Mathlib.Nat.{zero-add, pow-succ', div-one, div-div-eq-div-mul}
use lib.Dec.{eqb}
use borrow.Author.Tests.{eqb-true, eqb-false}
use lib.ListN.{length, get_or}
use denote.Param.Members.{Mut, Called}
use Rattle.std.specs.Array.{IsFromFnResult, IsFromFnResultFrom}
use Rattle.megaco.specs.Square.{up_to, bits}

pub each_place : {A : Type 0} (n : ℕ) (f : ℕ → A) (ys : List A) → length ys ≡ n → ((i : ℕ) (e : A) → i < n → get_or ys i e ≡ f i) → ys ≡ up_to n f
unfolding up_to
each_place zero f [] l h = refl
each_place zero f (y ∷ ys) l h = absurd (omega (arith, l))
each_place (suc n) f [] l h = absurd (omega (arith, l))
each_place (suc n) f (y ∷ ys) l h =
    let a : y ≡ f 0 = h 0 y (omega arith) in
    let b : ys ≡ up_to n (λ i. f (suc i)) = each_place n (λ i. f (suc i)) ys (omega (arith, l)) (λ i e k. h (suc i) e (omega (arith, k))) in
    rw (← a, ← b)

module _ {F B : Type 0} (g : Mut F (ℕ × Unit {0}) B) (h : ℕ → B) (f : F) (most : ℕ)
    (value : (i : ℕ) (y : B) (q : F) → i < most → Called g f (i, tt) y q → y ≡ h i) (stays : (i : ℕ) (y : B) (q : F) → i < most → Called g f (i, tt) y q → q ≡ f) where
  each_from : (n i : ℕ) (p : F) (ys : List B) → i + n ≡ most → p ≡ f → IsFromFnResultFrom g p ys i n → (j : ℕ) (e : B) → i ≤ j → j < most → get_or ys j e ≡ h j
  each_from zero i p ys m s r j e a b = absurd (omega (arith, a, b, m))
  each_from (suc n) i p ys m s (q, y, at, called, rest) j e a b =
      by (eqb j i) refl (λ l. each_from n (i + 1) q ys (omega (arith, m)) (stays i y q (omega (arith, m)) c) rest j e l b)
    where
      c : Called g f (i, tt) y q
      c = subst (λ (x : F). Called g x (i, tt) y q) s called

      by : (t : Bool) → eqb j i ≡ t → (i + 1 ≤ j → get_or ys j e ≡ h j) → get_or ys j e ≡ h j
      by true o later = rw (eqb-true j i o) (at.1 e ∙ value i y q (omega (arith, m)) c)
      by false o later = later (omega (arith, a, eqb-false j i o))

  pub from_fn_is : (ys : List B) → IsFromFnResult g f ys most → ys ≡ up_to most h
  from_fn_is ys r = each_place most h ys r.long (λ i e k. each_from most 0 f ys (zero-add most) refl r.each i e (omega arith) k)

-- ---- the lowest bits of a number
alike : {A : Type 0} (n : ℕ) (f g : ℕ → A) → ((j : ℕ) → f j ≡ g j) → up_to n f ≡ up_to n g
unfolding up_to
alike zero f g e = refl
alike (suc n) f g e = rw (e 0, alike n (λ j. f (suc j)) (λ j. g (suc j)) (λ j. e (suc j)))

half : (j b : ℕ) → b / 2 ^ suc j ≡ b / 2 / 2 ^ j
half j b = rw (pow-succ' 2 j) (sym (div-div-eq-div-mul b 2 (2 ^ j)))

pub bits_are : (n b : ℕ) → up_to n (λ j. eqb (b / 2 ^ j % 2) 1) ≡ bits n b
unfolding up_to bits
bits_are zero b = refl
bits_are (suc n) b =
    let z : b / 2 ^ 0 ≡ b = div-one b in
    rw z (ap (λ (l : List Bool). eqb (b % 2) 1 ∷ l)
    (alike n (λ j. eqb (b / 2 ^ suc j % 2) 1) (λ j. eqb (b / 2 / 2 ^ j % 2) 1) (λ j. ap (λ (m : ℕ). eqb (m % 2) 1) (half j b)) ∙ bits_are n (b / 2)))

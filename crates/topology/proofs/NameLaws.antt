-- Names that are the same, letter case aside.
use Prim.Native.Nat.{ℕ, suc, ◌+◌, ◌<◌, ◌≤◌}
use mathlib.Core.Path.{◌≡◌, refl, sym, ap, ◌∙◌}
use mathlib.Core.List.{List, [], ◌∷◌}
use mathlib.Core.Bool.{Bool, true, false}
use native.Mathlib.Numerals.{add-one}
use native.Mathlib.Omega.{arith}
use lib.ListN.{length, get_or, drop, drop_of_length-le}
use lib.Seq.{drop-cons}
use lib.Dec.{eqb}
use Rattle.base.specs.Pick.{pick}
use Rattle.base.specs.Lists.{same}
use Rattle.megaco.specs.Bytes.{capital, capitals}

pick_none : (t : Bool) → pick t false false ≡ false
unfolding pick
pick_none true = refl
pick_none false = refl

pub unequal : (a b : List ℕ) → (length a ≡ length b → ⊥) → false ≡ same (capitals a) (capitals b)
unfolding same capitals
unequal [] [] n = absurd (n refl)
unequal [] (y ∷ b) n = refl
unequal (x ∷ a) [] n = refl
unequal (x ∷ a) (y ∷ b) n = rw (← unequal a b (λ e. n (ap suc e))) (sym (pick_none (eqb (capital x) (capital y))))

module _ (a b : List ℕ) (i : ℕ) (q : Bool) (inv : q ≡ same (capitals (drop i a)) (capitals (drop i b))) (long : length a ≡ length b) where
  module _ (h : i < length a) (x : Bool) (e : x ≡ eqb (capital (get_or a i 0)) (capital (get_or b i 0))) where
    at_most : i < length b
    at_most = omega arith

    pub letters_on : x ≡ true → q ≡ same (capitals (drop (i + 1) a)) (capitals (drop (i + 1) b))
    unfolding same capitals pick
    letters_on g = let m : i < length b = at_most in inv ∙ rw (drop-cons a i 0, drop-cons b i 0, ← e, g, add-one)

    pub letters_no : x ≡ false → false ≡ q
    unfolding same capitals pick
    letters_no g = let m : i < length b = at_most in sym (inv ∙ rw (drop-cons a i 0, drop-cons b i 0, ← e, g))

  pub letters_end : length a ≤ i → true ≡ q
  unfolding same capitals
  letters_end h = let m : length b ≤ i = omega arith in sym (inv ∙ rw (drop_of_length-le a h, drop_of_length-le b m))

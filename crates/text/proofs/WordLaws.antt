-- Laws of keywords, in the form in which `search` uses them.
use Prim.Native.Nat.{ℕ, suc, ◌+◌, ◌<◌, ◌≤◌}
use mathlib.Core.Path.{◌≡◌, refl, sym, ap, ◌∙◌}
use mathlib.Core.List.{List, [], ◌∷◌}
use mathlib.Core.Bool.{Bool, true, false}
use native.Mathlib.Numerals.{add-one}
use native.Mathlib.Omega.{arith}
use lib.ListN.{length, get_or, drop, drop_of_length-le}
use lib.Seq.{drop-cons}
use lib.Dec.{eqb}
use Rattle.base.specs.Pick.{pick}
use Rattle.base.specs.Lists.{same}
use Rattle.megaco.specs.Bytes.{capital, capitals}

pick_none : (t : Bool) → pick t false false ≡ false
unfolding pick
pick_none true = refl
pick_none false = refl

pub unequal : (w f : List ℕ) → (length w ≡ length f → ⊥) → false ≡ same (capitals w) f
unfolding same capitals
unequal [] [] n = absurd (n refl)
unequal [] (y ∷ f) n = refl
unequal (x ∷ w) [] n = refl
unequal (x ∷ w) (y ∷ f) n = rw (← unequal w f (λ e. n (ap suc e))) (sym (pick_none (eqb (capital x) y)))

module _ (w f : List ℕ) (i : ℕ) (q : Bool) (inv : q ≡ same (capitals (drop i w)) (drop i f)) (long : length w ≡ length f) (h : i < length w) where
  at_most : i < length f
  at_most = omega arith

  pub word_on : (x : Bool) → x ≡ eqb (capital (get_or w i 0)) (get_or f i 0) → x ≡ true → q ≡ same (capitals (drop (i + 1) w)) (drop (i + 1) f)
  unfolding same capitals pick
  word_on x e g = let m : i < length f = at_most in inv ∙ rw (drop-cons w i 0, drop-cons f i 0, ← e, g, add-one)

  pub word_no : (x : Bool) → x ≡ eqb (capital (get_or w i 0)) (get_or f i 0) → x ≡ false → false ≡ q
  unfolding same capitals pick
  word_no x e g = let m : i < length f = at_most in sym (inv ∙ rw (drop-cons w i 0, drop-cons f i 0, ← e, g))

pub word_end : (w f : List ℕ) (i : ℕ) (q : Bool) → q ≡ same (capitals (drop i w)) (drop i f) → length w ≡ length f → length w ≤ i → true ≡ q
unfolding same capitals
word_end w f i q inv long h = let m : length f ≤ i = omega arith in sym (inv ∙ rw (drop_of_length-le w h, drop_of_length-le f m))

-- Laws of lines and of the second line, in the form in which `search` uses them.
use Prim.Native.Nat.{ℕ}
use mathlib.Core.Path.{◌≡◌, refl, sym, ◌∙◌}
use mathlib.Core.Bool.{Bool, true, false, ◌&&◌}
use mathlib.Core.List.{List, [], ◌∷◌}
use lib.Dec.{eqb}
use Rattle.std.specs.Cmp.Lexicographic.{pointwise}
use Rattle.base.specs.Pick.{pick}
use Rattle.base.specs.Lists.{same}
use Rattle.base.specs.Bytes.{◌then◌}
use Rattle.base.specs.Out.{Appended}
use Rattle.base.proofs.OutLaws.{◌▸◌}
use Rattle.digits.specs.Dialling.{Dialled}
use Rattle.dial.specs.Words.{answer_text}

-- the words of std that `==` is told in
pub same_is : (s f : List ℕ) → same s f ≡ pointwise eqb s f
unfolding same pick
same_is [] [] = refl
same_is [] (y ∷ f) = refl
same_is (x ∷ s) [] = refl
same_is (x ∷ s) (y ∷ f) = by (eqb x y) (same_is s f)
  where
    by : (t : Bool) → same s f ≡ pointwise eqb s f → pick t (same s f) false ≡ t && pointwise eqb s f
    by true e = e
    by false e = refl

-- the answer of `==`, of a text that stands behind a reference
pub told : (x : Bool) (s f t : List ℕ) → x ≡ pointwise eqb s t → t ≡ f → x ≡ same s f
told x s f t e g = e ∙ rw g (sym (same_is s f))

-- ---- the line for a dialled string

pub line_put : (o : List ℕ) (d : Dialled) (o₁ o₂ : List ℕ) (n r : ℕ) → Appended o 0 (answer_text d) o₁ n → Appended o₁ n (10 ∷ []) o₂ r
    → Appended o 0 (answer_text d then (10 ∷ [])) o₂ r
line_put o d o₁ o₂ n r a b = a ▸ b

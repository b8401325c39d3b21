-- What follows a part: another behind a comma, or nothing.
use Rattle.std.specs.Prelude.{Some, None}
use Prim.Native.Nat.{ℕ}
use mathlib.Core.Path.{◌≡◌, refl, ◌∙◌}
use mathlib.Core.Bool.{Bool, true, false}
use mathlib.Core.List.{List}
use native.Mathlib.Omega.{arith}
use Rattle.base.specs.Pick.{pick}
use Rattle.base.specs.Lists.{is_at}
use Rattle.megaco.specs.Bytes.{comma}
use Rattle.protocol.specs.Types.{Parsed}
use Rattle.read_command.specs.Production.{past_sign}
use Rattle.command_places.specs.Found.{next_at}

-- what a definition has behind a part that ends at y
module _ {A : Type 0} (s : List ℕ) (e y : ℕ) (o : e ≡ y) (x : Parsed) (g : x ≡ next_at s e) (f : ℕ → A) (z : A) where
  next_is : x ≡ pick (is_at s y comma) (Some (past_sign comma s y)) None
  unfolding next_at
  next_is = g ∙ rw o

  pub part_last : x ≡ None → pick (is_at s y comma) (f (past_sign comma s y)) z ≡ z
  unfolding pick
  part_last w = by (is_at s y comma) (past_sign comma s y) next_is
    where
      by : (t : Bool) (p : ℕ) → x ≡ pick t (Some p) None → pick t (f p) z ≡ z
      by true p c = let d : ◌≡◌ {A = ℕ} 0 1 = cc in absurd (omega arith)
      by false p c = refl

  pub part_more : (u : ℕ) → x ≡ Some u → pick (is_at s y comma) (f (past_sign comma s y)) z ≡ f u
  unfolding pick
  part_more u w = by (is_at s y comma) (past_sign comma s y) next_is
    where
      by : (t : Bool) (p : ℕ) → x ≡ pick t (Some p) None → pick t (f p) z ≡ f u
      by true p c = let d : p ≡ u = cc in rw d
      by false p c = let d : ◌≡◌ {A = ℕ} 0 1 = cc in absurd (omega arith)

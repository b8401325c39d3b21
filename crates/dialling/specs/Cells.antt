-- How the code keeps a map: the selectors of its alternatives in a row of cells, 0 after each alternative.
use Rattle.std.specs.Prelude.{ℕ, ◌≤◌, ◌≡◌, List, [], ◌∷◌, ◌++◌, take, eqb, Some, None, IfSome}
use Rattle.std.proofs.Math.Option.{Option, none, some}
use Rattle.std.specs.declared.option.Option.{Option as Maybe}
use Rattle.base.specs.Pick.{pick}
use Rattle.base.specs.Bytes.{◌then◌}
use Rattle.base.specs.Out.{Appended}
use Rattle.megaco.specs.Reading.{got}
use Rattle.protocol.specs.Types.{Parsed}
use Rattle.digits.specs.DigitMap.{string_r}
use Rattle.digits.specs.Dialling.{Plan, plan, no_plan}
use Rattle.dialling.specs.declared.Loaded.{Loaded}

unfoldable pub flat : List (List ℕ) → List ℕ
flat [] = []
flat (a ∷ m) = (a then (0 ∷ [])) then flat m

-- selectors before the first alternative; where no 0 follows, there is none
unfoldable pub gathered : List ℕ → List (List ℕ) → List (List ℕ)
gathered a [] = []
gathered a (b ∷ m) = (a ++ b) ∷ m

unfoldable pub alts_of : List ℕ → List (List ℕ)
alts_of [] = []
alts_of (x ∷ l) = let m = alts_of l in pick (eqb x 0) ([] ∷ m) (gathered (x ∷ []) m)

-- what a loaded map means, whatever its fields and the cells hold; a refused one is none
unfoldable pub plan_in : Maybe Loaded → List ℕ → Plan
plan_in (Some l) cells = plan (alts_of (take l.count cells)) l.first
plan_in None cells = no_plan

-- what is loaded means a plan, and says how many cells hold it
pub record Keeps (p : Plan) (l : Maybe Loaded) (cells : List ℕ) : Type 0 where
  pub is : plan_in l cells ≡ p
  pub short : IfSome l (λ x. x.count ≤ 1040)

-- the cells of one alternative that is read, put at a place
pub record Stores (s o : List ℕ) (at : ℕ) (o' : List ℕ) (r : ℕ) : Type 0 where
  pub to : (a : List ℕ) (n : ℕ) → string_r s ≡ got a n → Appended o at (a then (0 ∷ [])) o' r

-- the cells of a map that is read, put at a place, or that none is
pub record Listed (x : Option (List (List ℕ))) (o : List ℕ) (at : ℕ) (o' : List ℕ) (r : Parsed) : Type 0 where
  pub refused : x ≡ none → r ≡ None
  pub kept : (m : List (List ℕ)) → x ≡ some m → (n : ℕ) × (r ≡ Some n) × Appended o at (flat m) o' n

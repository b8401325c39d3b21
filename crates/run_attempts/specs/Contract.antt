-- What the functions of a run promise: the state and the reports that the definition gives, the reports' text appended in a buffer.
use Rattle.std.specs.Prelude.{ℕ, ◌≡◌, List, [], ◌∷◌, ◌++◌, Bool, false, ◌&&◌}
use Rattle.base.specs.Pick.{pick}
use Rattle.base.specs.Out.{Appended}
use Rattle.megaco.specs.Reply.{refused, reports_text}
use Rattle.megaco.specs.State.{State}
use Rattle.megaco.specs.Names.{name_text}
use Rattle.megaco.specs.Command.{Outcome, outcome}
use Rattle.protocol.specs.Types.{Op}
use Rattle.run_attempts.specs.declared.Turn.{Turn}
use Rattle.run_attempts.specs.declared.CommandOutcome.{CommandOutcome}

-- from the buffer o at `at`, a run leaves the state t', made of the lent slices, and the buffer o'; `first` tells that no comma is due before its first report
pub record RunsTo (x : Outcome) (first : Bool) (o : List ℕ) (at : ℕ) (t' : State) (o' : List ℕ) (r : CommandOutcome) : Type 0 where
  pub state : t' ≡ x.state
  pub text : Appended o at (reports_text first x.reports) o' r.next
  pub place : r.at ≡ x.at
  pub going : r.going ≡ x.going

-- one outcome after another, in the state that it left
unfoldable pub joined : Outcome → Outcome → Outcome
joined x y = outcome y.state (x.reports ++ y.reports) y.at (x.going && y.going)

-- the name that a failed attempt bears
unfoldable pub shown : ℕ → Bool → ℕ → List ℕ → List ℕ
shown lines wild i name = pick wild (name_text lines i) name

-- a command that fails before any attempt is reported under the bytes received
pub record CommandFailed (op : Op) (name : List ℕ) (code : ℕ) (turn : Turn) (o o' : List ℕ) (r : CommandOutcome) : Type 0 where
  pub text : Appended o turn.next (reports_text turn.first (refused op name code ∷ [])) o' r.next
  pub place : r.at ≡ turn.at
  pub going : r.going ≡ false

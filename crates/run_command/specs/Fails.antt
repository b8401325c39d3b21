-- What is promised of a command that fails.
use Rattle.std.specs.Prelude.{ℕ, ◌≡◌, List, [], ◌∷◌, Bool, false, ◌||◌}
use Rattle.base.specs.Out.{Appended}
use Rattle.megaco.specs.Reply.{failed, reports_text}
use Rattle.run_attempts.specs.declared.Turn.{Turn}
use Rattle.run_attempts.specs.declared.CommandOutcome.{CommandOutcome}

-- the transaction goes on after an optional command
unfoldable pub optionally : Bool → CommandOutcome → CommandOutcome
optionally o w = record { next = w.next; at = w.at; going = w.going || o }

-- an action error is reported, and the transaction stops
pub record Failed (code : ℕ) (turn : Turn) (o o' : List ℕ) (r : CommandOutcome) : Type 0 where
  pub text : Appended o turn.next (reports_text turn.first (failed code ∷ [])) o' r.next
  pub place : r.at ≡ turn.at
  pub going : r.going ≡ false

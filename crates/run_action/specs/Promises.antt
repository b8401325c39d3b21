-- What the functions over actions and transactions promise.
use Rattle.std.specs.Prelude.{ℕ, ◌≡◌, Bool, List}
use Rattle.base.specs.Bytes.{text, ◌then◌}
use Rattle.megaco.specs.State.{State}
use Rattle.megaco.specs.Reply.{separator}
use Rattle.reply.specs.Texts.{action_open}
use Rattle.protocol.specs.Types.{Context}
use Rattle.base.specs.Out.{Appended}
use Rattle.megaco.specs.Command.{Outcome}
use Rattle.megaco.specs.Transaction.{Ran}
use Rattle.run_action.specs.Fold.{outcome_text}
use Rattle.run_action.specs.declared.RanAction.{RanAction}

-- from the buffer o at `at`, an action leaves the state t', made of the lent slices, and the buffer o'
pub record ActionRunsTo (x : Outcome) (first : Bool) (o : List ℕ) (at : ℕ) (t' : State) (o' : List ℕ) (r : RanAction) : Type 0 where
  pub state : t' ≡ x.state
  pub text : Appended o at (outcome_text first x) o' r.next
  pub going : r.going ≡ x.going

-- the same of a part of a message
pub record Wrote (x : Ran) (o : List ℕ) (at : ℕ) (t' : State) (o' : List ℕ) (r : ℕ) : Type 0 where
  pub state : t' ≡ x.state
  pub text : Appended o at x.text o' r

-- an action's text around that of its reports
unfoldable pub around : Bool → Context → List ℕ → List ℕ
around first c x = separator first then action_open c then x then text "}"

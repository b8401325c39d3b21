-- The answer of a call as one number.
use Prim.Native.Nat.{ℕ, ◌+◌, ◌*◌}
use mathlib.Core.Path.{◌≡◌, ◌∙◌}
use mathlib.Core.List.{List}
use Rattle.megaco.specs.State.{State}
use Rattle.megaco.specs.Room.{Room}
use Rattle.megaco.specs.Call.{Called}
use Rattle.gateway.specs.Answers.{CallOutcome, refusal_of, size_of, Answered, number_of, Packed}

pub packs : (c : Called) (t' : State) (r' : Room) (o' : List ℕ) (a : CallOutcome) (r : ℕ) → Answered c t' r' o' a → r ≡ number_of a → Packed c t' r' o' r
unfolding number_of
packs c t' r' o' a r d e = record { answer = e ∙ (λ i. d.size i + 4294967296 * d.refusal i); state = d.state; room = d.room; reply = d.reply }

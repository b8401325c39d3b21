use Rattle.read_command.specs.Places.{action_at, actions_at}
use Rattle.read_action.proofs.actions.Goals as goal

pub returns : goal.returns
unfolding actions_at
returns c = c.list.ensures (λ i. (action_at c.args.s.now i).place) (λ i r k p. p)

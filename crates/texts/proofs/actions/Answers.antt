use Rattle.read_command.specs.Places.{action_at, actions_at}
use Rattle.texts.specs.Texts.{action_holders, actions_holders}
use Rattle.texts.proofs.actions.Goals as goal

pub returns : goal.returns
unfolding actions_holders actions_at
returns c = c.list.ensures (action_holders c.args.s.now) (λ j. (action_at c.args.s.now j).end) (λ i l r h k p. p)

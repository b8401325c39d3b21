use Rattle.read_command.specs.Places.{command_at}
use Rattle.action_places.proofs.commands_end.Goals as goal

pub returns : goal.returns
returns c = c.list_end.ensures (λ i. (command_at c.args.s.now i).end) (λ i r k p. p)

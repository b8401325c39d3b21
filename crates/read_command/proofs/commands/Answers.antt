use Rattle.read_command.specs.Places.{command_at, commands_at}
use Rattle.read_command.proofs.commands.Goals as goal

pub returns : goal.returns
unfolding commands_at
returns c = c.list.ensures (λ i. (command_at c.args.s.now i).place) (λ i r k p. p)

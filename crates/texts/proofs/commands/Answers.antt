use Rattle.read_command.specs.Places.{command_at, commands_at}
use Rattle.texts.specs.Texts.{command_holders, commands_holders}
use Rattle.texts.proofs.commands.Goals as goal

pub returns : goal.returns
unfolding commands_holders commands_at
returns c = c.list.ensures (command_holders c.args.s.now) (λ j. (command_at c.args.s.now j).end) (λ i l r h k p. p)

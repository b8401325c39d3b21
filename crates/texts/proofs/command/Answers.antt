use Rattle.texts.proofs.SeekLaws.{command_inside}
use Rattle.texts.proofs.command.Goals as goal

pub returns-in-Some : goal.returns-in-Some
returns-in-Some c = command_inside c.args.s.now c.args.at c.command_places-p.result c.command_places-p.ensures c.args.left c.in-Some.inside c.in-Some.is c.top.result c.closed.result c.top.ensures c.closed.ensures

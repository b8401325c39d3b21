use Rattle.read_command.specs.Places.{action_at}
use Rattle.command_places.proofs.EndLaws.{after_more}
use Rattle.action_places.proofs.actions_after.Goals as goal

pub returns-in-Some : goal.returns-in-Some
returns-in-Some c = after_more (λ j. (action_at c.args.s.now j).end) c.args.s.now c.args.most c.args.e c.next_part.result c.next_part.ensures c.in-Some.u c.actions_end.result c.in-Some.is c.actions_end.ensures

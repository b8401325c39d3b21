use Rattle.std.proofs.Common.{rules}
use Rattle.run_action.proofs.StartedLaws.{inner_fails, inner_commands, inner_alone, body_of_commands, body_alone}
use Rattle.run_action.proofs.run_inner.Goals as goal

pub returns-then-rest : goal.returns-then-rest
returns-then-rest c = (search inner_commands, search body_of_commands)

pub returns-else-rest : goal.returns-else-rest
returns-else-rest c = (search inner_alone, search body_alone)

pub returns-in-Err : goal.returns-in-Err
returns-in-Err c = (search inner_fails, search rules)

use Rattle.command_tests.proofs.TestLaws.{judged_wrong}
use Rattle.command_tests.proofs.run_judged.Goals as goal

pub returns-in-Err : goal.returns-in-Err
returns-in-Err c = search judged_wrong

use Rattle.run_attempts.proofs.RunsToLaws.{attempt_does, attempt_fails}
use Rattle.run_attempts.proofs.try_one.Goals as goal

pub returns-in-Ok : goal.returns-in-Ok
returns-in-Ok c = search attempt_does

pub returns-in-Err : goal.returns-in-Err
returns-in-Err c = search attempt_fails

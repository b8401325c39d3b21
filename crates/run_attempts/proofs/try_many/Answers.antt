use Rattle.run_attempts.proofs.RunsToLaws.{many_none, many_some}
use Rattle.run_attempts.proofs.try_many.Goals as goal

pub returns-then-n-eq0 : goal.returns-then-n-eq0
returns-then-n-eq0 c = search many_none

pub returns : goal.returns
returns c = search many_some

use Rattle.run_attempts.proofs.RunsToLaws.{figures_put, detail_put}
use Rattle.run_attempts.proofs.put_told.Goals as goal

pub returns-then-is_subtract-first : goal.returns-then-is_subtract-first
returns-then-is_subtract-first c = search figures_put

pub returns : goal.returns
returns c = search detail_put

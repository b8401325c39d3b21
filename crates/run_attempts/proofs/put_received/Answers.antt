use Rattle.base.proofs.OutLaws.{after}
use Rattle.run_attempts.proofs.put_received.Goals as goal

pub returns : goal.returns
returns c = search after

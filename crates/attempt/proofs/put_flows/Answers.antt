use Rattle.attempt.proofs.ChangeLaws.{flows_put}
use Rattle.attempt.proofs.put_flows.Goals as goal

pub returns : goal.returns
returns c = search flows_put

use Rattle.attempt.proofs.ChangeLaws.{two_put}
use Rattle.attempt.proofs.put_two.Goals as goal

pub returns : goal.returns
returns c = search two_put

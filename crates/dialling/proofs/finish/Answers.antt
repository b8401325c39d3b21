use Rattle.dialling.proofs.LiveLaws.{finish_on, finish_end}
use Rattle.dialling.proofs.finish.Goals as goal

pub loop-i-preserved : goal.loop-i-preserved
loop-i-preserved c = search finish_on

pub returns : goal.returns
returns c = search finish_end

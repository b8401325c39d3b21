use Rattle.dialling.proofs.LiveLaws.{step_on, step_end}
use Rattle.dialling.proofs.step.Goals as goal

pub loop-i-preserved : goal.loop-i-preserved
loop-i-preserved c = search step_on

pub returns : goal.returns
returns c = search step_end

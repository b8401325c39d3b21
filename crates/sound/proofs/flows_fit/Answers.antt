use Rattle.sound.proofs.FlowLaws.{some_end}
use Rattle.sound.proofs.flows_fit.Goals as goal

pub returns : goal.returns
returns c = search some_end

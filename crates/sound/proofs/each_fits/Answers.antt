use Rattle.sound.proofs.FlowLaws.{flows_end}
use Rattle.sound.proofs.each_fits.Goals as goal

pub returns : goal.returns
returns c = search flows_end

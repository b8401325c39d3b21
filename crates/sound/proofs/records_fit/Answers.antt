use Rattle.sound.proofs.SoundLaws.{meet_end}
use Rattle.sound.proofs.records_fit.Goals as goal

pub returns : goal.returns
returns c = search meet_end

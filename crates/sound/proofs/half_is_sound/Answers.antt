use Rattle.sound.proofs.SoundLaws.{half_end}
use Rattle.sound.proofs.half_is_sound.Goals as goal

pub returns : goal.returns
returns c = search half_end

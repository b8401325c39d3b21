use Rattle.sound.proofs.SoundLaws.{pair_end}
use Rattle.sound.proofs.ephemerals_are_sound.Goals as goal

pub returns : goal.returns
returns c = search pair_end

use Rattle.sound.proofs.SpeechLaws.{all_end}
use Rattle.sound.proofs.all_speech.Goals as goal

pub returns : goal.returns
returns c = search all_end

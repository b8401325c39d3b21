use Rattle.sound.proofs.SpeechLaws.{each_end}
use Rattle.sound.proofs.each_speech.Goals as goal

pub returns : goal.returns
returns c = search each_end

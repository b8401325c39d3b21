use Rattle.std.proofs.Common.{◌≡◌, ◌*◌, ◌&&◌, drop}
use Rattle.megaco.specs.Table.{speech_is_sound}
use Rattle.sound.proofs.each_speech.Given as goal

abbrev pub invariant-loop-k : goal.invariant-loop-k
invariant-loop-k l = speech_is_sound l.row l.speech ≡ (l.good && speech_is_sound (drop l.k l.row) (drop (8 * l.k) l.speech))

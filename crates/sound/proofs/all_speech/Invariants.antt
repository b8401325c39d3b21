use Rattle.std.proofs.Common.{◌≡◌, ◌*◌, ◌&&◌, drop}
use Rattle.megaco.specs.Table.{speech_is_sound}
use Rattle.sound.proofs.all_speech.Given as goal

abbrev pub invariant-loop-b : goal.invariant-loop-b
invariant-loop-b l = speech_is_sound l.row l.speech ≡ (l.good && speech_is_sound (drop (16 * l.b) l.row) (drop (128 * l.b) l.speech))

use Rattle.std.proofs.Common.{rules, refl}
use Rattle.room.proofs.KeepLaws.{shift_begin, shift_on, shift_next}
use Rattle.room.proofs.shift.Goals as goal

pub loop-i-init : goal.loop-i-init
loop-i-init c = (refl, shift_begin _)

pub loop-i-preserved : goal.loop-i-preserved
loop-i-preserved c = (search (rules, shift_next), search (rules, shift_on))

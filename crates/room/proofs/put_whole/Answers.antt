use Rattle.std.proofs.Common.{rules}
use Rattle.base.proofs.OutLaws.{same_length_by}
use Rattle.room.proofs.RoomLaws.{whole_begin, whole_on}
use Rattle.room.proofs.put_whole.Goals as goal

pub loop-i-init : goal.loop-i-init
loop-i-init c = whole_begin _ _ c.args.s.now

pub loop-i-preserved : goal.loop-i-preserved
loop-i-preserved c = search (rules, whole_on, same_length_by)

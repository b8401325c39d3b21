use Rattle.megaco.specs.Kept.{acked}
use Rattle.megaco.specs.Room.{room}
use Rattle.room.proofs.KeepLaws.{Cut}
use Rattle.room.proofs.drop_range.Given as goal

abbrev pub invariant-loop-i : goal.invariant-loop-i
invariant-loop-i l = Cut (room l.initial.words l.bytes) (acked l.sender l.ack.first l.ack.last) l.words l.p l.i

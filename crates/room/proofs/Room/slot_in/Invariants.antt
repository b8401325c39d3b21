use Rattle.std.proofs.Common.{◌≡◌, drop}
use Rattle.megaco.specs.Room.{slot_in}
use Rattle.room.proofs.Room.slot_in.Given as goal

abbrev pub invariant-loop-n : goal.invariant-loop-n
invariant-loop-n l = slot_in l.self l.pair.sender.now l.pair.id l.row ≡ slot_in l.self l.pair.sender.now l.pair.id (drop l.n-index l.row)

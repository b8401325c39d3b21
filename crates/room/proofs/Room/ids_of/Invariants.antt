use Rattle.std.proofs.Common.{◌≡◌, map, take, length}
use Rattle.megaco.specs.Room.{slot_id}
use Rattle.room.proofs.Room.ids_of.Given as goal

abbrev pub invariant-loop-i : goal.invariant-loop-i
invariant-loop-i l = (take l.i l.ids ≡ map (slot_id l.self) (take l.i l.row)) × (length l.ids ≡ 16)

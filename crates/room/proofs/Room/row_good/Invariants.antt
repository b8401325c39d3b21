use Rattle.std.proofs.Common.{◌≡◌, map, length}
use Rattle.megaco.specs.Room.{slot_id, row_good}
use Rattle.room.proofs.Room.row_good.Given as goal

abbrev pub invariant-loop-n : goal.invariant-loop-n
invariant-loop-n l = (row_good l.self l.fn.row ≡ row_good l.self l.row) × (l.ids ≡ map (slot_id l.self) l.row)

abbrev pub decreases-loop-n : goal.decreases-loop-n
decreases-loop-n l = length l.row

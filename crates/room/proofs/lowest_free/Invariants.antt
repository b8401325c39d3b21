use Rattle.std.proofs.Common.{◌≡◌, ◌-◌}
use Rattle.megaco.specs.Room.{lowest_free}
use Rattle.room.proofs.lowest_free.Given as goal

abbrev pub invariant-loop-n : goal.invariant-loop-n
invariant-loop-n l = lowest_free 16 1 l.row ≡ lowest_free (17 - l.n) l.n l.row

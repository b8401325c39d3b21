use Rattle.std.proofs.Common.{◌≡◌}
use Rattle.table.specs.Sides.{side_number}
use Rattle.table.proofs.TableLaws.{written}
use Rattle.table.proofs.set_side.Given as goal

abbrev pub invariant-loop-j : goal.invariant-loop-j
invariant-loop-j l = l.table ≡ written l.fn.table l.i (side_number l.fn.side) l.fn.words l.j

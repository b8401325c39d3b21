use Rattle.std.proofs.Common.{◌≤◌, max, length}
use Rattle.text.proofs.TextLaws.{RowHere}
use Rattle.text.proofs.row.Given as goal

abbrev pub invariant-loop-i : goal.invariant-loop-i
invariant-loop-i l = RowHere l.low l.high l.s l.at l.i × (l.i ≤ max l.at (length l.s))

use Rattle.std.proofs.Common.{◌+◌, take}
use Rattle.base.specs.Out.{Appended}
use Rattle.room.proofs.put_whole.Given as goal

abbrev pub invariant-loop-i : goal.invariant-loop-i
invariant-loop-i l = Appended l.fn.out l.at (take l.i l.s) l.out (l.at + l.i)

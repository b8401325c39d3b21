use Rattle.std.proofs.Common.{◌≡◌, take, drop}
use Rattle.base.specs.Out.{Appended}
use Rattle.room.proofs.shift.Given as goal

abbrev pub invariant-loop-i : goal.invariant-loop-i
invariant-loop-i l = (l.p ≡ l.i) × Appended l.fn.words 0 (take l.i (drop 1 (take 16 l.fn.words))) l.words l.p

use Rattle.std.proofs.Common.{take}
use Rattle.base.specs.Out.{Appended}
use Rattle.writer.proofs.put_bytes.Given as goal

abbrev pub invariant-loop-b : goal.invariant-loop-b
invariant-loop-b l = Appended l.fn.out l.at (take l.b-index l.s) l.out l.p

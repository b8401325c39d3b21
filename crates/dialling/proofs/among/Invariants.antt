use Rattle.digits.specs.Symbols.{symbols_of}
use Rattle.dialling.proofs.CellLaws.{AmongHere}
use Rattle.dialling.proofs.among.Given as goal

abbrev pub invariant-loop-i : goal.invariant-loop-i
invariant-loop-i l = AmongHere l.fn.cells (symbols_of l.fn.dialled) l.known l.from l.i

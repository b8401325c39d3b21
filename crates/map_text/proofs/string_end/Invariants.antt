use Rattle.map_text.proofs.PartLaws.{StringHere}
use Rattle.map_text.proofs.string_end.Given as goal

abbrev pub invariant-loop-n : goal.invariant-loop-n
invariant-loop-n l = StringHere l.fn.s l.i l.left l.n

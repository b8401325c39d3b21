use Rattle.dialling.proofs.StoreLaws.{FillHere}
use Rattle.dialling.proofs.fill.Given as goal

abbrev pub invariant-loop : goal.invariant-loop
invariant-loop l = FillHere l.fn.s l.fn.cells l.fn.at l.i l.counter l.cells l.p

use Rattle.dialling.proofs.StoreLaws.{ListHere}
use Rattle.dialling.proofs.list.Given as goal

abbrev pub invariant-loop : goal.invariant-loop
invariant-loop l = ListHere l.fn.s l.fn.cells l.i l.counter l.cells l.n

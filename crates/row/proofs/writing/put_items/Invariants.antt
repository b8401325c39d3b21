use Rattle.row.proofs.PutLaws.{Leads}
use Rattle.row.proofs.writing.put_items.Given as goal

abbrev pub invariant-loop-j : goal.invariant-loop-j
invariant-loop-j l = Leads l.lines l.fn.table l.fn.out l.fn.at l.j l.out l.p

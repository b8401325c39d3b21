use Rattle.std.proofs.Common.{drop}
use Rattle.megaco.specs.Command.{matches_from}
use Rattle.attempt_view.proofs.ViewLaws.{Noting}
use Rattle.attempt_view.proofs.note_row.Given as goal

abbrev pub invariant-loop-i : goal.invariant-loop-i
invariant-loop-i l = Noting (matches_from l.lines l.op l.c l.r 0 l.row) l.fn.out (matches_from l.lines l.op l.c l.r l.i (drop l.i l.row)) l.out l.n l.i

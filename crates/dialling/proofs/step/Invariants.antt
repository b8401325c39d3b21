use Rattle.dialling.proofs.LiveLaws.{StepHere}
use Rattle.dialling.proofs.step.Given as goal

abbrev pub invariant-loop-i : goal.invariant-loop-i
invariant-loop-i l = StepHere l.fn.a l.fn.live l.fn.c l.live l.reach l.carry l.i

use Rattle.dialling.proofs.LiveLaws.{FinishHere}
use Rattle.dialling.proofs.finish.Given as goal

abbrev pub invariant-loop-i : goal.invariant-loop-i
invariant-loop-i l = FinishHere l.fn.a l.fn.live l.reach l.longer l.i

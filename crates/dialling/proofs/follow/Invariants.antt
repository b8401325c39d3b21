use Rattle.dialling.proofs.LiveLaws.{FollowHere}
use Rattle.dialling.proofs.follow.Given as goal

abbrev pub invariant-loop-b : goal.invariant-loop-b
invariant-loop-b l = FollowHere l.fn.a l.fn.live l.fn.dialled l.live l.b-index

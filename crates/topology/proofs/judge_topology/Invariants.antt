use Rattle.std.proofs.Common.{◌≡◌}
use Rattle.topology.proofs.LinkLaws.{judged_by}
use Rattle.topology.proofs.LoopLaws.{of_properties, of_action}
use Rattle.topology.proofs.judge_topology.Given as goal

-- properties from here on come to what all of them do
abbrev pub invariant-loop-n : goal.invariant-loop-n
invariant-loop-n l = judged_by l.c l.table (of_action l.s l.at) ≡ judged_by l.c l.table (of_properties l.s l.n l.i)

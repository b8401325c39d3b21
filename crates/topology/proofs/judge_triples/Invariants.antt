use Rattle.std.proofs.Common.{◌≡◌}
use Rattle.read_command.specs.Places.{triples_at}
use Rattle.topology.proofs.LinkLaws.{judged_by}
use Rattle.topology.proofs.LoopLaws.{triples_from}
use Rattle.topology.proofs.judge_triples.Given as goal

-- triples from here on come to what all of them do
abbrev pub invariant-loop-n : goal.invariant-loop-n
invariant-loop-n l = judged_by l.c l.table (triples_at l.s l.at).tree ≡ judged_by l.c l.table (triples_from l.s l.n l.i)

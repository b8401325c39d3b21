use Rattle.std.proofs.Common.{◌≡◌}
use Rattle.read_command.specs.Places.{triples_at}
use Rattle.topology.proofs.LinkLaws.{set_by}
use Rattle.topology.proofs.LoopLaws.{triples_from}
use Rattle.topology.proofs.set_triples.Given as goal

-- triples from here on set what all of them do
abbrev pub invariant-loop-n : goal.invariant-loop-n
invariant-loop-n l = set_by l.c l.table (triples_at l.s l.at).tree l.fn.was ≡ set_by l.c l.table (triples_from l.s l.n l.i) l.q

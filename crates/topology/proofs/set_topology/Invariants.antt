use Rattle.std.proofs.Common.{◌≡◌}
use Rattle.topology.proofs.LinkLaws.{set_by}
use Rattle.topology.proofs.LoopLaws.{of_properties, of_action}
use Rattle.topology.proofs.set_topology.Given as goal

-- properties from here on set what all of them do
abbrev pub invariant-loop-n : goal.invariant-loop-n
invariant-loop-n l = set_by l.c l.table (of_action l.s l.at) l.fn.was ≡ set_by l.c l.table (of_properties l.s l.n l.i) l.q

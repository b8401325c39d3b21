use Rattle.std.proofs.Common.{◌≡◌}
use Rattle.megaco.specs.Topology.{any_topology}
use Rattle.start_action.specs.Starting.{properties_in}
use Rattle.start_action.proofs.StartLaws.{topology_from}
use Rattle.start_action.proofs.has_topology.Given as goal

-- topology is among them all if it is from here on
abbrev pub invariant-loop-n : goal.invariant-loop-n
invariant-loop-n l = any_topology (properties_in l.s l.at) ≡ topology_from l.s l.n l.i

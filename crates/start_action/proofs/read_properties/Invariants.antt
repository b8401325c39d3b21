use Rattle.std.proofs.Common.{◌≤◌, ◌+◌, ◌-◌, length}
use Rattle.read_command.specs.Places.{properties_of}
use Rattle.start_action.specs.Starting.{properties_in}
use Rattle.start_action.proofs.StartLaws.{Leads}
use Rattle.start_action.proofs.read_properties.Given as goal

-- the properties from here on are still to be set in both records
abbrev pub invariant-loop-n : goal.invariant-loop-n
invariant-loop-n l = Leads (properties_in l.s l.at) (properties_of (length l.s + 1 - l.n) l.s l.i) l.held l.a l.b × (l.a ≤ 32) × (l.b ≤ 32)

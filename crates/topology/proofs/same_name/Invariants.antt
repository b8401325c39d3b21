use Rattle.std.proofs.Common.{◌≡◌, drop}
use Rattle.base.specs.Lists.{same}
use Rattle.megaco.specs.Bytes.{capitals}
use Rattle.topology.proofs.same_name.Given as goal

-- the names are the same if their rests are
abbrev pub invariant-loop-i : goal.invariant-loop-i
invariant-loop-i l = same (capitals l.a) (capitals l.b) ≡ same (capitals (drop l.i l.a)) (capitals (drop l.i l.b))

use Rattle.std.proofs.Common.{◌≡◌, ◌+◌, ◌-◌, length}
use Rattle.megaco.specs.Reading.{unlimited}
use Rattle.read_command.specs.Places.{rest_of}
use Rattle.action_places.proofs.rest_of.Given as goal

-- what follows the properties from here is what follows them all
abbrev pub invariant-loop-n : goal.invariant-loop-n
invariant-loop-n l = rest_of (unlimited l.s) l.s l.at ≡ rest_of (length l.s + 1 - l.n) l.s l.i

use Rattle.std.proofs.Common.{arith, refl}
use Rattle.base.specs.Lists.{before}
use Rattle.listing.proofs.main.Goals as goal

pub invariant_of-line : goal.invariant_of-line
unfolding before
invariant_of-line c = record { within = omega arith; unended = refl }

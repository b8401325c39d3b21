use Rattle.std.proofs.Common.{length, ◌+◌}
use Rattle.plain_digits.proofs.+tries.Given as goal

abbrev pub decreases-tries : goal.decreases-tries
decreases-tries l = length l.pattern.now + length l.string.now

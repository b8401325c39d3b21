use Rattle.std.proofs.Common.{◌≡◌, ◌-◌, ◌^◌, ◌<◌, drop}
use Rattle.megaco.specs.Square.{of_bits}
use Rattle.square.proofs.number_of.Given as goal

abbrev pub invariant-loop-j : goal.invariant-loop-j
invariant-loop-j l = (l.n ≡ of_bits (drop (8 - l.j) l.r)) × (l.n < 2 ^ l.j)

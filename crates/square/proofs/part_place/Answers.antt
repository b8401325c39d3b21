use Rattle.std.proofs.Common.{ℕ, arith}
use Rattle.megaco.specs.Square.{parted_row, parted}
use Rattle.square.proofs.ArrayLaws.{each_place}
use Rattle.square.proofs.part_place.Goals as goal

pub returns : goal.returns
unfolding parted
returns c = each_place 8 (λ (j : ℕ). parted_row c.args.q.now c.args.k j) _ c.loop-i.invariant.0 (λ j e h. c.loop-i.invariant.1 j e (omega arith))

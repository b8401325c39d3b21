use Prim.Native.Nat.{ℕ}
use Rattle.std.proofs.Common.{rules}
use Rattle.megaco.specs.Square.{parted_flow, parted_row}
use Rattle.square.proofs.ArrayLaws.{from_fn_is}
use Rattle.square.proofs.parted_row.Goals as goal

pub returns : goal.returns
unfolding parted_row
returns c = from_fn_is _ (λ (j : ℕ). parted_flow c.args.q.now c.args.k c.args.i j) _ 8 (λ i y q l k. search rules) (λ i y q l k. search rules) _ c.from_fn.ensures.items

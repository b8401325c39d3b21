use Prim.Native.Nat.{ℕ}
use mathlib.Core.Bool.{false, ◌&&◌}
use lib.ListN.{get_or}
use Rattle.std.proofs.Common.{rules}
use Rattle.square.proofs.ArrayLaws.{from_fn_is}
use Rattle.square.proofs.both.Goals as goal

pub returns : goal.returns
returns c = from_fn_is _ (λ (j : ℕ). get_or c.args.a j false && get_or c.args.b j false) _ 8 (λ i y q l k. search rules) (λ i y q l k. search rules) _ c.from_fn.ensures.items

use Prim.Native.Nat.{ℕ, ◌-◌}
use mathlib.Core.Bool.{true, false}
use lib.Dec.{ltb, eqb}
use lib.ListN.{get_or}
use Rattle.std.proofs.Common.{rules}
use Rattle.base.specs.Pick.{pick}
use Rattle.square.proofs.ArrayLaws.{from_fn_is}
use Rattle.square.proofs.opened.Goals as goal

pub returns : goal.returns
unfolding pick
returns c = from_fn_is _ (λ (j : ℕ). pick (eqb j c.args.k) true (get_or c.args.r (pick (ltb c.args.k j) (j - 1) j) false)) _ 8 (λ i y q l k. search rules) (λ i y q l k. search rules) _ c.from_fn.ensures.items

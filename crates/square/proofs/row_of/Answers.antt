use Prim.Native.Nat.{ℕ, ◌/◌, ◌%◌, ◌^◌}
use mathlib.Core.Path.{◌∙◌}
use lib.Dec.{eqb}
use Rattle.std.proofs.Common.{rules}
use Rattle.square.proofs.ArrayLaws.{from_fn_is, bits_are}
use Rattle.square.proofs.row_of.Goals as goal

pub returns : goal.returns
returns c = from_fn_is _ (λ (j : ℕ). eqb (c.args.b / 2 ^ j % 2) 1) _ 8 (λ i y q l k. search rules) (λ i y q l k. search rules) _ c.from_fn.ensures.items ∙ bits_are 8 c.args.b

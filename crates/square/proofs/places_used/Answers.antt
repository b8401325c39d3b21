use Prim.Native.Nat.{ℕ}
use lib.Dec.{ltb}
use Rattle.std.proofs.Common.{rules}
use Rattle.square.proofs.ArrayLaws.{from_fn_is}
use Rattle.square.proofs.places_used.Goals as goal

pub returns : goal.returns
returns c = from_fn_is _ (λ (j : ℕ). ltb j c.args.m) _ 8 (λ i y q l k. search rules) (λ i y q l k. search rules) _ c.from_fn.ensures.items

-- A table of 1,522 words has eight lines.
use Rattle.std.proofs.Common.{◌≡◌, ℕ, List, length, arith}
use Rattle.megaco.specs.Table.{fitted, Sized}
use Rattle.megaco.proofs.Sizes.{fitted_is}

pub eight : (t : List ℕ) → length t ≡ 1522 → Sized t
eight t l = let f : fitted t ≡ 8 = fitted_is 8 t l in record { some = omega arith; few = omega arith; long = omega arith }

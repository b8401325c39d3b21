-- The parts of a number that was read: where two are the same, so are their values and the places after them.
use mathlib.Core.Path.{ap}
use Rattle.std.specs.Prelude.{ℕ, ◌≡◌, Some, None}
use Rattle.megaco.specs.Results.{Number, number}

abbrev value_in : Number → ℕ
value_in (Some (v, p)) = v
value_in None = 0

abbrev next_in : Number → ℕ
next_in (Some (v, p)) = p
next_in None = 0

pub same_value : {v p w q : ℕ} → number w q ≡ number v p → w ≡ v
same_value e = ap value_in e

pub same_next : {v p w q : ℕ} → number w q ≡ number v p → q ≡ p
same_next e = ap next_in e

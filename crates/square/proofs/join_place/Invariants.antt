use Rattle.std.proofs.Common.{◌≡◌, ℕ, ◌<◌, List, Bool, length, get_or}
use Rattle.megaco.specs.Square.{joined_row}
use Rattle.square.proofs.join_place.Given as goal

abbrev pub invariant-loop-i : goal.invariant-loop-i
invariant-loop-i l = (length l.rows ≡ 8) × ((j : ℕ) (e : List Bool) → j < l.i → get_or l.rows j e ≡ joined_row l.q l.m l.k j)

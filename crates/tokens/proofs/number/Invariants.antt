use Rattle.std.proofs.Common.{◌≡◌, ◌≤◌, max, length}
use lib.ListN.{drop}
use Rattle.megaco.specs.Tokens.{number_at, number_from}
use Rattle.tokens.proofs.number.Given as goal

abbrev pub invariant-loop-i : goal.invariant-loop-i
invariant-loop-i l =
    (l.at ≤ l.i) × (l.i ≤ max l.at (length l.s)) × (l.v ≤ l.limit) × (number_at l.s l.at l.most l.limit ≡ number_from l.at l.most l.limit (drop l.i l.s) l.i l.v)

use Rattle.std.proofs.Common.{◌≡◌, ◌≤◌, max, length}
use lib.ListN.{drop}
use Rattle.megaco.specs.White.{white_at, white_from}
use Rattle.text.proofs.white_run.Given as goal

abbrev pub invariant-loop-i : goal.invariant-loop-i
invariant-loop-i l = (white_at l.s l.at ≡ white_from (drop l.i l.s) l.i l.inside) × (l.i ≤ max l.at (length l.s))

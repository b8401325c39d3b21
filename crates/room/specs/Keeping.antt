-- A reply that fits into a slot is kept, with its pair; another changes nothing.
use Rattle.std.specs.Prelude.{ℕ, List, length, leb}
use Rattle.base.specs.Pick.{pick}
use Rattle.megaco.specs.Kept.{kept_under}
use Rattle.megaco.specs.Room.{Room, keep_in}

unfoldable pub keep_fitting : List ℕ → ℕ → List ℕ → Room → Room
keep_fitting m id x r = pick (leb (length m) 72) (pick (leb (length x) 2048) (keep_in (kept_under m id x) r) r) r

-- The two sides of an ephemeral's speech, in the order of their words.
use Rattle.std.specs.Prelude.{ℕ}
use Rattle.megaco.specs.declared.Side.{Side}
use Rattle.megaco.specs.declared.Side.TheVariants.{OfLocal, OfRemote}

-- Local is side 0, Remote side 1
abbrev pub side_number : Side → ℕ
side_number = elim [ OfLocal ↦ 0 | OfRemote ↦ 1 ]

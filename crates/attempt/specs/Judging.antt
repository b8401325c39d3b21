-- The value that a command gives, or the one that was there.
use Rattle.std.specs.Prelude.{ℕ}
use Rattle.megaco.specs.Items as items
use Rattle.protocol.specs.Types.{Given}

abbrev pub value_or : Given → ℕ → ℕ
value_or g x = items.change g x

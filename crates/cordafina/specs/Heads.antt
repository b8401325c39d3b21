-- A map that was loaded, its cells aside, as one number: bit 0 whether it is good, bits 1 to 3 the timer before any symbol, from bit 4 on how many
-- cells it has.
use Rattle.std.specs.Prelude.{ℕ, ◌+◌, ◌*◌, ◌/◌, ◌%◌, eqb, Some, None}
use Rattle.std.specs.declared.option.Option.{Option}
use Rattle.base.specs.Pick.{pick}
use Rattle.digits.specs.Codes.{timer_code, timer_at}
use Rattle.dialling.specs.declared.Loaded.{Loaded}

unfoldable pub head_of : Option Loaded → ℕ
head_of (Some l) = 1 + 2 * timer_code l.first + 16 * l.count
head_of None = 0

-- what a number means, whatever it is
unfoldable pub loaded_at : ℕ → Option Loaded
loaded_at n = pick (eqb (n % 2) 1) (Some (record { first = timer_at (n / 2 % 8); count = n / 16 })) None

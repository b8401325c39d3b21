-- The two kinds of numbers in names.
use Rattle.std.specs.Prelude.{ℕ, ◌+◌, ◌*◌, ◌-◌, not, ◌&&◌, eqb}
use Rattle.base.specs.Pick.{pick}
use Rattle.megaco.specs.Bytes.{is_digit}

unfoldable pub one_digit : ℕ → ℕ
one_digit a = pick (is_digit a) (a - 48) 0

unfoldable pub two_digits : ℕ → ℕ → ℕ
two_digits a b = pick (is_digit a && is_digit b && not (eqb a 48)) (10 * (a - 48) + (b - 48)) 0

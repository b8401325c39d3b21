-- The two matchers are equal.
use mathlib.Core.Path.{sym, ◌∙◌}
use Rattle.plain_digits.specs.Agree.{Equal}

pub equal : Equal
equal s start rule w r q a b = b.answer ∙ sym (a.answer ∙ rw a.kept.is)

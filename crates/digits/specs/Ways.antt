-- What is known of a string by two ways.
use Rattle.std.specs.Prelude.{◌||◌}
use Rattle.digits.specs.declared.Reach.{Reach}

abbrev pub either : Reach → Reach → Reach
either a b = record { matched = a.matched || b.matched; longer = a.longer || b.longer }

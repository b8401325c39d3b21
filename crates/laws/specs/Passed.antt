-- The tests of an attempt, or of an action's start, that it passed.
use Rattle.std.specs.Prelude.{◌≡◌, false, List, [], ◌∷◌}
use Rattle.megaco.specs.Attempt.{Check, check}

-- every test is passed
abbrev pub Passed : List Check → Type 0
Passed [] = Unit {0}
Passed (check b code ∷ cs) = (b ≡ false) × Passed cs

-- The tests of an attempt that it passed.
use Rattle.std.specs.Prelude.{Ok, Err}
use Prim.Native.Nat.{ℕ}
use mathlib.Core.Path.{◌≡◌, refl}
use mathlib.Core.Bool.{true, false}
use mathlib.Core.List.{List, [], ◌∷◌}
use Rattle.base.specs.Pick.{pick}
use Rattle.megaco.specs.Attempt.{Check, check, judge}
use Rattle.protocol.specs.Types.{Checked}
use Rattle.laws.specs.Passed.{Passed}

-- what holds where a test fails, and where every test is passed, holds of what the tests come to
pub judged : (P : Checked → Type 0) (cs : List Check) → ((code : ℕ) → P (Err code)) → (Passed cs → P (Ok tt)) → P (judge cs)
unfolding judge pick
judged P [] f g = g tt
judged P (check true code ∷ cs) f g = f code
judged P (check false code ∷ cs) f g = judged P cs f (λ p. g (refl, p))

-- tests that are passed come to no code
pub passes : (cs : List Check) → Passed cs → judge cs ≡ Ok tt
unfolding judge pick
passes [] p = refl
passes (check b code ∷ cs) p = rw p.0 (passes cs p.1)

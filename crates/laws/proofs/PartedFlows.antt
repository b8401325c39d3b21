-- The flows of a context that a member leaves: a flow that stays is one of two members who stay.
use Prim.Native.Nat.{ℕ, ◌+◌, ◌-◌, ◌<◌}
use mathlib.Core.Path.{◌≡◌, refl, ap}
use mathlib.Core.Logic.{◌≢◌}
use mathlib.Core.Bool.{Bool, true, false}
use lib.Dec.{ltb}
use borrow.Author.Tests.{ltb-true, ltb-false}
use native.Mathlib.Omega.{arith}
use Rattle.base.specs.Pick.{pick}
use Rattle.megaco.specs.Square.{Square, flow_at, parted_flow}
use Rattle.laws.specs.Sound.{Fit}

pub parted_may : (q : Square) (m k a b : ℕ) → k < m → Fit m q → parted_flow q k a b ≡ true → (a < m - 1) × (b < m - 1) × (a ≢ b)
unfolding parted_flow pick
parted_may q m k a b h f e = by (ltb a k) (ltb b k) refl refl e
  where
    by : (x y : Bool) → ltb a k ≡ x → ltb b k ≡ y → flow_at q (pick x a (a + 1)) (pick y b (b + 1)) ≡ true → (a < m - 1) × (b < m - 1) × (a ≢ b)
    by true true p r e = let g = f a b e in let u = ltb-true a k p in let v = ltb-true b k r in (omega (arith, u), omega (arith, v), g.2)
    by true false p r e = let g = f a (b + 1) e in let u = ltb-true a k p in let v = ltb-false b k r in (omega (arith, u), omega (arith, g.1), λ z. omega (arith, u, v, z))
    by false true p r e = let g = f (a + 1) b e in let u = ltb-false a k p in let v = ltb-true b k r in (omega (arith, g.0), omega (arith, v), λ z. omega (arith, u, v, z))
    by false false p r e = let g = f (a + 1) (b + 1) e in (omega (arith, g.0), omega (arith, g.1), λ z. g.2 (ap (λ (n : ℕ). n + 1) z))

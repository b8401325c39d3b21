-- What a member hears is what the triples said: each triple fixes both directions of its pair, and every other pair is as before.
use Prim.Native.Nat.{ℕ, ◌<◌}
use mathlib.Core.Path.{◌≡◌, refl, ap, ◌∙◌}
use mathlib.Core.Logic.{◌≢◌}
use mathlib.Core.Bool.{Bool, true, false, ◌&&◌}
use lib.Dec.{eqb}
use borrow.Author.Tests.{eqb-true, eq-eqb, ne_eqb}
use Rattle.base.specs.Pick.{pick}
use Rattle.protocol.specs.Types.{Direction, Isolate, Oneway, Bothway}
use Rattle.megaco.specs.Square.{Square, flow_at, paired, directed}
use Rattle.megaco.proofs.Squares.{Shape, flow_paired}
use Rattle.laws.specs.Hears.{forth, back, OtherPair}

pub directed_is : (d : Direction) (i j : ℕ) (q : Square) → directed d i j q ≡ paired q i j (forth d) (back d)
unfolding directed forth back
directed_is Isolate i j q = refl
directed_is Oneway i j q = refl
directed_is Bothway i j q = refl

-- all of it in one: member a to member b
pub directed_tells : (d : Direction) (i j a b : ℕ) (q : Square) → Shape q → i < 8 → j < 8 → a < 8 → b < 8
    → flow_at (directed d i j q) a b ≡ pick (eqb a j && eqb b i) (back d) (pick (eqb a i && eqb b j) (forth d) (flow_at q a b))
directed_tells d i j a b q s h k l m = ap (λ (p : Square). flow_at p a b) (directed_is d i j q) ∙ flow_paired q i j a b (forth d) (back d) s h k l m

module _ (d : Direction) (q : Square) (i j : ℕ) (s : Shape q) (h : i < 8) (k : j < 8) (n : i ≢ j) where
  after : (a b : ℕ) → a < 8 → b < 8 → flow_at (directed d i j q) a b ≡ pick (eqb a j && eqb b i) (back d) (pick (eqb a i && eqb b j) (forth d) (flow_at q a b))
  after a b l m = directed_tells d i j a b q s h k l m

  -- "Oneway of A, B: A flows to B and B doesn't to A", and so of each direction
  pub second_hears : flow_at (directed d i j q) i j ≡ forth d
  unfolding pick
  second_hears = after i j h k ∙ rw (ne_eqb i j n, eq-eqb i i refl, eq-eqb j j refl)

  pub first_hears : flow_at (directed d i j q) j i ≡ back d
  unfolding pick
  first_hears = after j i k h ∙ rw (eq-eqb j j refl, eq-eqb i i refl)

  neither : (x y : Bool) → ((x ≡ true) × (y ≡ true) → ⊥) → x && y ≡ false
  neither true true f = absurd (f (refl, refl))
  neither true false f = refl
  neither false y f = refl

  -- "Pairs not named stay"
  pub others_hear : (a b : ℕ) → a < 8 → b < 8 → OtherPair i j a b → flow_at (directed d i j q) a b ≡ flow_at q a b
  unfolding pick
  others_hear a b l m o =
      after a b l m
      ∙ rw (neither (eqb a j) (eqb b i) (λ z. o.back (eqb-true a j z.0, eqb-true b i z.1)), neither (eqb a i) (eqb b j) (λ z. o.forth (eqb-true a i z.0, eqb-true b j z.1)))

-- a supervisor who listens unheard: "Oneway of A, B"
pub listens_unheard : (q : Square) (i j : ℕ) → Shape q → i < 8 → j < 8 → i ≢ j → (flow_at (directed Oneway i j q) i j ≡ true) × (flow_at (directed Oneway i j q) j i ≡ false)
unfolding forth back
listens_unheard q i j s h k n = (second_hears Oneway q i j s h k n, first_hears Oneway q i j s h k n)

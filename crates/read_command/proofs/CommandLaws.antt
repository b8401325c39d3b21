-- Laws of commands, in the form in which `search` uses them.
use Prim.Native.Nat.{ℕ, ◌+◌, ◌≤◌}
use mathlib.Core.Path.{◌≡◌, refl, sym}
use mathlib.Core.List.{List}
use mathlib.Core.Bool.{Bool, true, false, ◌&&◌}
use native.Mathlib.Omega.{arith}
use lib.Dec.{eqb}
use lib.ListN.{length, get_or}
use Rattle.base.specs.Pick.{pick}
use Rattle.base.specs.Lists.{is_at}
use Rattle.megaco.specs.Bytes.{dash, capital}
use Rattle.megaco.specs.Reading.{prefix_at, prefix_end}
use Rattle.text.proofs.TextLaws.{beyond}

module _ (b : ℕ) (s : List ℕ) (at : ℕ) where
  module _ (k : ℕ) (x : Bool) (e : k ≡ capital (get_or s at 0)) (g : x ≡ is_at s (at + 1) dash) where
    pub prefix_yes : (eqb k b && x) ≡ true → at + 2 ≡ prefix_end b s at
    unfolding prefix_end prefix_at pick
    prefix_yes t = rw (← e, ← g, t)

    pub prefix_no : (eqb k b && x) ≡ false → at ≡ prefix_end b s at
    unfolding prefix_end prefix_at pick
    prefix_no t = rw (← e, ← g, t)

  and_false : (x y : Bool) → false ≡ y → (x && y) ≡ false
  and_false true y e = sym e
  and_false false y e = refl

  -- past the end no prefix stands
  pub prefix_beyond : length s ≤ at → at ≡ prefix_end b s at
  unfolding prefix_end prefix_at pick
  prefix_beyond h = let n : false ≡ is_at s (at + 1) dash = beyond s (at + 1) dash (omega arith) in rw (and_false (eqb (capital (get_or s at 0)) b) (is_at s (at + 1) dash) n)

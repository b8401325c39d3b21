-- Parts joined by commas, one and then the others.
use Prim.Native.Nat.{ℕ, zero, suc, ◌-◌, ◌<◌}
use mathlib.Core.Path.{◌≡◌, sym, ap}
use mathlib.Core.Bool.{Bool, true, false}
use mathlib.Core.List.{List, [], ◌∷◌}
use native.Mathlib.Omega.{arith}
use Rattle.base.specs.Pick.{pick}
use Rattle.base.specs.Lists.{is_at}
use Rattle.megaco.specs.Bytes.{comma}
use Rattle.read_command.specs.Production.{past_sign, list_of}

pub list_open : {A : Type 0} (one : ℕ → A) (end : ℕ → ℕ) (s : List ℕ) (k i : ℕ) → 0 < k
    → list_of one end s k i ≡ one i ∷ pick (is_at s (end i) comma) (list_of one end s (k - 1) (past_sign comma s (end i))) []
unfolding list_of
list_open one end s zero i h = absurd (omega arith)
list_open one end s (suc m) i h =
    let e : suc m - 1 ≡ m = omega arith in
    ap (λ (j : ℕ). one i ∷ pick (is_at s (end i) comma) (list_of one end s j (past_sign comma s (end i))) []) (sym e)

pub picked : {A : Type 0} (b : Bool) (x y : A) → b ≡ true → pick b x y ≡ x
unfolding pick
picked b x y e = rw e

pub left_out : {A : Type 0} (b : Bool) (x y : A) → b ≡ false → pick b x y ≡ y
unfolding pick
left_out b x y e = rw e

-- When a termination may go from where it stands to a context.
use Prim.Native.Nat.{ℕ, ◌≤◌, ◌<◌, min}
use mathlib.Core.Path.{◌≡◌}
use mathlib.Core.Logic.{◌≢◌}
use mathlib.Core.Bool.{Bool, true, false}
use mathlib.Core.List.{List}
use lib.Dec.{leb}
use Rattle.megaco.specs.Table.{line_terminations, terminations, contexts, fitted, most, rec, ctx, cell, get, members}
use Rattle.laws.specs.Sound.{SoundWord}

pub record Goes (t : List ℕ) (new last mark : Bool) (g d i x y : ℕ) : Type 0 where
  pub small : i < terminations (fitted t)
  pub from : get t (ctx i) ≡ d
  pub away : x ≢ d
  pub low : x ≤ contexts
  pub word : SoundWord y
  pub absent : line_terminations (fitted t) ≤ i → x ≡ 0 → y ≡ 0
  pub room : 0 < x → members x t < most
  pub made : new ≡ true → (0 < g) × (g ≤ 32)
  pub there : new ≡ false → 0 < x → 0 < get t (cell (rec x))
  pub ends : 0 < d → last ≡ leb (members d t) 1
  pub stays : mark ≡ false → line_terminations (fitted t) ≤ i → min x 1 ≡ min d 1

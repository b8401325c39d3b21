-- A room of zeros is sound and keeps nothing.
use Prim.Native.Nat.{ℕ}
use mathlib.Core.Path.{◌≡◌, refl}
use mathlib.Core.Bool.{true}
use mathlib.Core.List.{List, []}
use lib.ListN.{replicate, length-replicate}
use borrow.Author.Tests.{eq-eqb}
use Rattle.base.specs.Pick.{pick}
use Rattle.base.specs.Lists.{every, before}
use Rattle.megaco.specs.Room.{room, held_in, kept_of, is_zero, row_good, room_sound}

abbrev bytes : List ℕ
bytes = replicate 33920 0

row_empty : (b : List ℕ) → row_good (room (replicate 64 0) b) (replicate 16 0) ≡ true
unfolding row_good every is_zero pick
row_empty b = refl

pub empty_room : (room_sound (room (replicate 64 0) bytes) ≡ true) × (kept_of (room (replicate 64 0) bytes) ≡ [])
unfolding room_sound kept_of held_in before pick
empty_room = (rw (eq-eqb _ 33920 (length-replicate {A = ℕ} 33920 0)) (row_empty bytes), refl)

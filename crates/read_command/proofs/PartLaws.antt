-- A part whose ends are brought within the message is the same part.
use Prim.Native.Nat.{ℕ, ◌-◌, ◌<◌, ◌≤◌, min}
use mathlib.Core.Path.{◌≡◌, refl, sym, ◌∙◌}
use mathlib.Core.List.{List}
use mathlib.Core.Bool.{Bool, true, false}
use native.Mathlib.Omega.{arith}
use lib.Dec.{ltb}
use lib.ListN.{length, take, drop, length-drop, drop_of_length-le}
use lib.Seq.{take_all, take-nil}
use borrow.Author.Tests.{ltb-true, ltb-false}
use Rattle.base.specs.Lists.{part}
use Rattle.read_command.specs.Pieces.{piece_of}

pub piece_is : (s : List ℕ) (a e a₁ e₁ : ℕ) → e₁ ≡ min e (length s) → a₁ ≡ min a e₁ → record { from = a₁; to = e₁ } ≡ piece_of s a e
unfolding piece_of
piece_is s a e a₁ e₁ f g = rw (g, f)

pub part_within : (s : List ℕ) (a e a₁ e₁ : ℕ) → e₁ ≡ min e (length s) → a₁ ≡ min a e₁ → part s a₁ e₁ ≡ part s a e
unfolding part
part_within s a e a₁ e₁ f g = by (ltb e (length s)) refl
  where
    left : (b : Bool) → ltb a e ≡ b → e₁ ≡ e → take (e₁ - a₁) (drop a₁ s) ≡ take (e - a) (drop a s)
    left true h y = let w : a < e = ltb-true _ _ h in let z : a₁ ≡ a = omega arith in rw (y, z)
    left false h y = let w : e ≤ a = ltb-false _ _ h in let z : e₁ - a₁ ≡ 0 = omega arith in let z' : e - a ≡ 0 = omega arith in rw (z, z')

    right : (b : Bool) → ltb a (length s) ≡ b → e₁ ≡ length s → length s ≤ e → take (e₁ - a₁) (drop a₁ s) ≡ take (e - a) (drop a s)
    right true h y k =
        let w : a < length s = ltb-true _ _ h in
        let z : a₁ ≡ a = omega arith in
        let l : length (drop a s) ≡ length s - a = length-drop a s in
        rw (y, z) (take_all (length s - a) (drop a s) (omega arith) ∙ sym (take_all (e - a) (drop a s) (omega arith)))
    right false h y k =
        let w : length s ≤ a = ltb-false _ _ h in
        let z : e₁ - a₁ ≡ 0 = omega arith in
        rw (z, drop_of_length-le s w, take-nil)

    by : (b : Bool) → ltb e (length s) ≡ b → take (e₁ - a₁) (drop a₁ s) ≡ take (e - a) (drop a s)
    by true h = let w : e < length s = ltb-true _ _ h in left (ltb a e) refl (omega arith)
    by false h = let w : length s ≤ e = ltb-false _ _ h in right (ltb a (length s)) refl (omega arith) w

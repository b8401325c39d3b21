-- Taking a number, in the form in which `search` uses the laws.
use Rattle.std.specs.Prelude.{Some, None}
use Prim.Native.Nat.{ℕ, zero, suc, ◌+◌, ◌-◌, ◌*◌, ◌<◌, ◌≤◌}
use mathlib.Core.Path.{◌≡◌, refl, sym, ◌∙◌}
use mathlib.Core.List.{List}
use native.Mathlib.Numerals.{add-one}
use native.Mathlib.Omega.{arith}
use lib.ListN.{length, get_or, drop, drop_of_length-le}
use lib.Seq.{drop-cons, get_or-drop}
use mir.Syntax.{w8, w32}
use mir.Val.{Fits}
use borrow.Author.Tests.{lt-ltb, le-ltb, eq-eqb, ne_eqb}
use Rattle.base.specs.Pick.{pick}
use Rattle.groups.specs.Groups.{most, further, take_f, take_at}
use Rattle.groups.specs.Rows.{Bytes}
use Rattle.protocol.specs.Types.{Number, number as got}
use Rattle.groups.proofs.GroupLaws.{Stands, stands}

pub bytes : (s : List ℕ) → ((i : ℕ) → Fits w8 (get_or s i 0)) → Bytes s
bytes s f = record { byte = λ i. (f i).fits }

pub bytes_drop : (s : List ℕ) (at : ℕ) → Bytes s → Bytes (drop at s)
bytes_drop s at f = record { byte = λ i. rw (get_or-drop at s i 0) (f.byte (at + i)) }

most_4 : (k : ℕ) → k ≤ 4 → most k ≤ 4294967296
most_4 zero h = omega arith
most_4 (suc zero) h = omega arith
most_4 (suc (suc zero)) h = omega arith
most_4 (suc (suc (suc zero))) h = omega arith
most_4 (suc (suc (suc (suc zero)))) h = omega arith
most_4 (suc (suc (suc (suc (suc k))))) h = absurd (omega arith)

module _ (s : List ℕ) (at k : ℕ) where
  pub take_past : length s ≤ at → None ≡ take_f k (drop at s) at
  unfolding take_f
  take_past h = rw (drop_of_length-le s h)

  module _ (b : ℕ) (h : at < length s) (e : b ≡ get_or s at 0) where
    pub last_is : k ≡ 0 → b < 16 → got b (at + 1) ≡ take_f k (drop at s) at
    unfolding take_f pick
    last_is z l = rw (drop-cons s at 0, z, ← e, lt-ltb b 16 l)

    pub last_no : k ≡ 0 → 16 ≤ b → None ≡ take_f k (drop at s) at
    unfolding take_f pick
    last_no z l = rw (drop-cons s at 0, z, ← e, le-ltb b 16 l)

    pub one_is : (k ≡ 0 → ⊥) → b < 128 → got b (at + 1) ≡ take_f k (drop at s) at
    unfolding take_f pick
    one_is z l = by k z
      where
        by : (k : ℕ) → (k ≡ 0 → ⊥) → got b (at + 1) ≡ take_f k (drop at s) at
        by zero z = absurd (z refl)
        by (suc k) z = rw (drop-cons s at 0, ← e, lt-ltb b 128 l)

    module _ (rest : Number) (z : k ≡ 0 → ⊥) (l : 128 ≤ b) (r : rest ≡ take_f (k - 1) (drop (at + 1) s) (at + 1)) where
      by_rest : take_f k (drop at s) at ≡ further b rest
      unfolding take_f pick
      by_rest = by k z r
        where
          by : (k : ℕ) → (k ≡ 0 → ⊥) → rest ≡ take_f (k - 1) (drop (at + 1) s) (at + 1) → take_f k (drop at s) at ≡ further b rest
          by zero z r = absurd (z refl)
          by (suc k) z r =
              let m : suc k - 1 ≡ k = omega arith in
              let q : rest ≡ take_f k (drop (suc at) s) (suc at) = rw (m, add-one) at r in
              rw (drop-cons s at 0, ← e, le-ltb b 128 l, add-one, ← q)

      pub more_nothing : rest ≡ None → None ≡ take_f k (drop at s) at
      unfolding further
      more_nothing q = sym (by_rest ∙ rw q)

      pub more_padded : (v q : ℕ) → rest ≡ got v q → v ≡ 0 → None ≡ take_f k (drop at s) at
      unfolding further pick
      more_padded v q f o = sym (by_rest ∙ rw (f, eq-eqb v 0 o))

      pub more_is : (v q : ℕ) → rest ≡ got v q → (v ≡ 0 → ⊥) → got (b - 128 + 128 * v) q ≡ take_f k (drop at s) at
      unfolding further pick
      more_is v q f o = sym (by_rest ∙ rw (f, ne_eqb v 0 o))

      pub more_fits : (v q : ℕ) → Bytes s → k ≤ 4 → rest ≡ got v q → (v ≡ 0 → ⊥) → Fits w32 (b - 128 + 128 * v)
      more_fits v q f h₄ i o =
          let w : Stands k (drop at s) at (b - 128 + 128 * v) q = stands k (drop at s) at (b - 128 + 128 * v) q (bytes_drop s at f) (sym (more_is v q i o)) in
          record { fits = omega (arith, w.small, most_4 k h₄) }

pub take_all : (s : List ℕ) (at : ℕ) (r : Number) → r ≡ take_f 4 (drop at s) at → r ≡ take_at s at
unfolding take_at
take_all s at r e = e

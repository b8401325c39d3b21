-- The maps of the classes: one test, computed over all bytes, and what it says at each byte.
use Prim.Native.Nat.{ℕ, zero, suc, ◌<◌, ◌/◌, ◌%◌, ◌^◌}
use mathlib.Core.Path.{◌≡◌, refl, sym}
use mathlib.Core.Bool.{Bool, true, false, not, ◌&&◌}
use native.Mathlib.Omega.{arith}
use borrow.Author.Tests.{eqb-true, eqb-false}
use lib.Dec.{eqb}
use Rattle.base.specs.Pick.{pick}
use Rattle.megaco.specs.Bytes.{is_letter, is_digit, is_word, is_name, is_safe, is_rest, is_quoted, is_domain, in_class}
use Rattle.protocol.specs.Types.{Class, WordByte, NameByte, SafeByte, QuotedByte, DomainByte}
use Rattle.text.specs.Classes.{low_of, high_of, half_of, OfMaps}

agree : Bool → Bool → Bool
agree true b = b
agree false b = not b

agree_is : (a b : Bool) → agree a b ≡ true → a ≡ b
unfolding agree
agree_is true b e = sym e
agree_is false true e = e
agree_is false false e = refl

-- a test holds of each number below n
unfoldable pub below : (ℕ → Bool) → ℕ → Bool
below f zero = true
below f (suc n) = f n && below f n

left : (a b : Bool) → (a && b) ≡ true → a ≡ true
left true b e = refl
left false b e = e

right : (a b : Bool) → (a && b) ≡ true → b ≡ true
right true b e = e
right false true e = refl
right false false e = e

pub below_at : (f : ℕ → Bool) (n : ℕ) → below f n ≡ true → (b : ℕ) → b < n → f b ≡ true
unfolding below
below_at f zero t b h = absurd (omega arith)
below_at f (suc n) t b h = by (eqb b n) refl (below_at f n (right (f n) (below f n) t) b)
  where
    by : (x : Bool) → eqb b n ≡ x → (b < n → f b ≡ true) → f b ≡ true
    by true e g = rw (eqb-true b n e) (left (f n) (below f n) t)
    by false e g = let d : b ≡ n → ⊥ = eqb-false b n e in g (omega arith)

-- the byte's bit in a class's maps, as the code finds it
unfoldable bit_in : ℕ → ℕ → Bool
bit_in b half = eqb (half / 2 ^ (b % 64) % 2) 1

unfoldable right_at : Class → ℕ → Bool
right_at k b = agree (bit_in b (half_of b (low_of k) (high_of k))) (in_class k b)

maps_right : (k : Class) → below (right_at k) 256 ≡ true
unfolding below right_at bit_in agree half_of pick in_class is_word is_name is_safe is_quoted is_domain is_letter is_digit is_rest
maps_right WordByte = refl
maps_right NameByte = refl
maps_right SafeByte = refl
maps_right QuotedByte = refl
maps_right DomainByte = refl

pub of_maps : (b low high half : ℕ) → b < 256 → half ≡ half_of b low high → OfMaps b low high (eqb (half / 2 ^ (b % 64) % 2) 1)
unfolding right_at bit_in
of_maps b low high half n e = record { is = λ k l h. rw (e, l, h) (agree_is _ _ (below_at (right_at k) 256 (maps_right k) b n)) }

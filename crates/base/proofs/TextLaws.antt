-- Texts one after another, and the length of a number in decimal.
use Prim.Native.Nat.{ℕ, zero, suc, ◌+◌, ◌*◌, ◌/◌, ◌%◌, ◌≤◌, ◌<◌}
use mathlib.Core.Path.{◌≡◌, refl}
use mathlib.Core.List.{List, [], ◌∷◌, ◌++◌, append_assoc, append-nil}
use mathlib.Core.Bool.{Bool, true, false}
use native.Mathlib.Omega.{arith}
use lib.ListN.{length, length-append}
use lib.Dec.{ltb}
use borrow.Author.Tests.{ltb-false}
use Rattle.base.specs.Pick.{pick}
use Rattle.base.specs.Bytes.{◌then◌, decimal, decimal_f}

pub length_then : (a b : List ℕ) → length (a then b) ≡ length a + length b
unfolding ◌then◌
length_then a b = length-append a b

pub then_assoc : (a b c : List ℕ) → (a then b) then c ≡ a then (b then c)
unfolding ◌then◌
then_assoc a b c = append_assoc a b c

pub none_then : (a : List ℕ) → [] then a ≡ a
unfolding ◌then◌
none_then a = refl

pub then_none : (a : List ℕ) → a then [] ≡ a
unfolding ◌then◌
then_none a = append-nil a

-- numbers of at most j + 1 digits are below
abbrev pub tens : ℕ → ℕ
tens zero = 10
tens (suc j) = 10 * tens j

length_digits : (k j n : ℕ) → n < tens j → length (decimal_f k n) ≤ suc j
unfolding decimal_f pick
length_digits zero j n h = omega arith
length_digits (suc k) j n h = by (ltb n 10) refl j h (λ i l. length_digits k i (n / 10) l)
  where
    by : (t : Bool) → ltb n 10 ≡ t → (j : ℕ) → n < tens j → ((i : ℕ) → n / 10 < tens i → length (decimal_f k (n / 10)) ≤ suc i)
        → length (pick t ((48 + n) ∷ []) (decimal_f k (n / 10) ++ ((48 + n % 10) ∷ []))) ≤ suc j
    by true e j h front = omega arith
    by false e zero h front = absurd (omega (arith, ltb-false))
    by false e (suc j) h front = simp length-append (omega (arith, front j (omega arith)))

pub length_below : (j n : ℕ) → n < tens j → length (decimal n) ≤ suc j
unfolding decimal
length_below j n h = length_digits (n + 1) j n h

-- a number of 32 bits has at most 10 digits
pub length_decimal : (n : ℕ) → n ≤ 4294967295 → length (decimal n) ≤ 10
length_decimal n h = length_below 9 n (omega arith)

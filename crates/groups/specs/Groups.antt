-- CR 14: "Numbers are in groups of seven bits, low group first, the top bit set on all but the last, shortest form only." One number.
use Rattle.std.specs.Prelude.{ℕ, zero, suc, ◌+◌, ◌-◌, ◌*◌, ◌/◌, ◌%◌, List, [], ◌∷◌, drop, ltb, eqb, Some, None}
use Rattle.base.specs.Pick.{pick}
use Rattle.protocol.specs.Types.{Number, number as got}

-- the groups of a number; the first argument bounds those after the first
unfoldable pub groups_f : ℕ → ℕ → List ℕ
groups_f zero n = n ∷ []
groups_f (suc k) n = let more = (128 + n % 128) ∷ groups_f k (n / 128) in pick (ltb n 128) (n ∷ []) more

-- five groups hold 32 bits
unfoldable pub number : ℕ → List ℕ
number n = groups_f 4 n

-- the numbers that fit: four bits in the last of five groups
abbrev pub most : ℕ → ℕ
most zero = 16
most (suc k) = 128 * most k

-- a group before others: a number whose other groups are all 0 is not in its shortest form
unfoldable pub further : ℕ → Number → Number
further b (Some (v, q)) = pick (eqb v 0) None (got (b - 128 + 128 * v) q)
further b None = None

-- the number at the front of some bytes, which stand at a place
unfoldable pub take_f : ℕ → List ℕ → ℕ → Number
take_f k [] at = None
take_f zero (b ∷ s) at = pick (ltb b 16) (got b (at + 1)) None
take_f (suc k) (b ∷ s) at = let more = further b (take_f k s (at + 1)) in pick (ltb b 128) (got b (at + 1)) more

unfoldable pub take_at : List ℕ → ℕ → Number
take_at s at = take_f 4 (drop at s) at

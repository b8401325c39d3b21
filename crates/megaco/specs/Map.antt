-- The map of the ephemerals (document 02, CR 5): a number read by its binary digits, lowest first.
use Rattle.std.specs.Prelude.{ℕ, zero, suc, ◌+◌, ◌*◌, ◌/◌, ◌%◌, List, [], ◌∷◌, get_or, set, eqb}
use Rattle.base.specs.Pick.{pick}

-- the k lowest binary digits of a number, lowest first, and the number of such digits
unfoldable pub digits : ℕ → ℕ → List ℕ
digits zero m = []
digits (suc k) m = m % 2 ∷ digits k (m / 2)

unfoldable pub of_digits : List ℕ → ℕ
of_digits [] = 0
of_digits (d ∷ ds) = d + 2 * of_digits ds

-- binary digit b of a word of 32 bits, and the word with that digit set to d
unfoldable pub digit : ℕ → ℕ → ℕ
digit b w = get_or (digits 32 w) b 0

unfoldable pub with_digit : ℕ → ℕ → ℕ → ℕ
with_digit b d w = of_digits (set (digits 32 w) b d)

-- 1 for what is not 0
unfoldable pub marks : List ℕ → List ℕ
marks [] = []
marks (x ∷ xs) = pick (eqb x 0) 0 1 ∷ marks xs

-- how many are not 0
unfoldable pub in_use : List ℕ → ℕ
in_use [] = 0
in_use (x ∷ xs) = pick (eqb x 0) 0 1 + in_use xs

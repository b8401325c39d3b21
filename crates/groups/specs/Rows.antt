-- A row of numbers as bytes.
use Rattle.std.specs.Prelude.{ℕ, ◌<◌, List, [], ◌∷◌, ◌++◌, get_or}
use Rattle.groups.specs.Groups.{number}

-- the bytes of a row
unfoldable pub encode : List ℕ → List ℕ
encode [] = []
encode (x ∷ xs) = number x ++ encode xs

-- numbers of 32 bits
pub record Below (xs : List ℕ) : Type 0 where
  pub below : (i : ℕ) → get_or xs i 0 < 4294967296

pub record Bytes (s : List ℕ) : Type 0 where
  pub byte : (i : ℕ) → get_or s i 0 < 256

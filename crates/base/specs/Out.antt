-- Text put into a lent buffer: what a writer promises.
use Rattle.std.specs.Prelude.{ℕ, ◌+◌, ◌<◌, min, max, ◌≡◌, List, length}
use Rattle.base.specs.Bytes.{put, decimal_f}

-- from o, with bs put at `at`, to o', and the position r after it, which stops at the buffer's end
pub record Appended (o : List ℕ) (at : ℕ) (bs o' : List ℕ) (r : ℕ) : Type 0 where
  pub text : o' ≡ put o at bs
  pub next : r ≡ max at (min (at + length bs) (length o))

-- a number in decimal, under every bound on its digits that suffices
pub record Digits (n : ℕ) (o : List ℕ) (at : ℕ) (o' : List ℕ) (r : ℕ) : Type 0 where
  pub is : (k : ℕ) → n < k → Appended o at (decimal_f k n) o' r

-- The lines of the listing program's input (document 01, 'Sessions to check').
use Rattle.std.specs.Prelude.{ℕ, ◌+◌, ◌≡◌, false, List, [], ◌∷◌, length, drop, eqb}
use Rattle.base.specs.Pick.{pick}
use Rattle.base.specs.Lists.{before}

-- LF alone ends a line; a CR before it is a byte of the message
abbrev pub line_end : ℕ
line_end = 0x0a

-- one more byte before the first line
unfoldable pub on_first : ℕ → List (List ℕ) → List (List ℕ)
on_first b [] = (b ∷ []) ∷ []
on_first b (l ∷ ls) = (b ∷ l) ∷ ls

-- "one message per line without its line end". An empty line is a message of 0 bytes, the last line needs no line end if it has a
-- byte, and empty input has no line.
unfoldable pub lines_of : List ℕ → List (List ℕ)
lines_of [] = []
lines_of (b ∷ s) = let r = lines_of s in pick (eqb b line_end) ([] ∷ r) (on_first b r)

-- bytes of a line that has not ended
pub data Unended : List ℕ → Type 0 where
  nothing : Unended []
  byte : {b : ℕ} {s : List ℕ} → eqb b line_end ≡ false → Unended s → Unended (b ∷ s)

-- a chunk's bytes from a place on that belong to the line there
abbrev pub line_from : List ℕ → ℕ → List ℕ
line_from s at = before line_end (drop at s)

-- where that line ends: the place of its line end, or the chunk's end
abbrev pub line_end_at : List ℕ → ℕ → ℕ
line_end_at s at = at + length (line_from s at)

-- A part of the message that can be lent: it lies within the message and has the same bytes.
use Rattle.std.specs.Prelude.{ℕ, ◌≤◌, min, ◌≡◌, List, length}
use Rattle.base.specs.Lists.{part}
use Rattle.read_command.specs.declared.Piece.{Piece}

-- the bytes from a place up to another, brought within the message
unfoldable pub piece_of : List ℕ → ℕ → ℕ → Piece
piece_of s a e = record { from = min a (min e (length s)); to = min e (length s) }

pub record Holds (s : List ℕ) (a e : ℕ) (r : Piece) : Type 0 where
  pub is : r ≡ piece_of s a e
  pub ordered : r.from ≤ r.to
  pub inside : r.to ≤ length s
  pub bytes : part s r.from r.to ≡ part s a e

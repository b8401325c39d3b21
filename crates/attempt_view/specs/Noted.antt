-- Matches noted in a lent row of words.
use Rattle.std.specs.Prelude.{ℕ, ◌+◌, ◌≡◌, Bool, ◌&&◌, List, length, set}
use Rattle.base.specs.Pick.{pick}
use Rattle.base.specs.Bytes.{put}
use Rattle.megaco.specs.Table.{exists}
use Rattle.megaco.specs.Names.{in_range}
use Rattle.megaco.specs.Command.{wanted}
use Rattle.protocol.specs.Types.{Op, Range}

-- a wildcard matches termination i, whose context word is given
unfoldable pub is_match : ℕ → Op → ℕ → Range → ℕ → ℕ → Bool
is_match lines op c r i word = in_range lines r i && exists lines i word && wanted op c word

-- a number at place n, if it is to be noted, and the next place
pub record Noted (o : List ℕ) (n i : ℕ) (yes : Bool) (o' : List ℕ) (r : ℕ) : Type 0 where
  pub row : o' ≡ pick yes (set o n i) o
  pub next : r ≡ pick yes (n + 1) n

-- numbers from the start of a row, and how many
pub record Matched (is o o' : List ℕ) (r : ℕ) : Type 0 where
  pub row : o' ≡ put o 0 is
  pub many : r ≡ length is

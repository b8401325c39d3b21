-- The contexts of a table asked for as text: what the listing program prints of them ("`contexts` and their count, and a line per context"), of a
-- table of any count of lines. The refusals and the least output are those of a row written (document 02, CR 14): "8, then 11 for an output under
-- 8,192 bytes, then 2", "nothing written by any, and bytes after a written row stay".
use Rattle.std.specs.Prelude.{ℕ, ◌+◌, ◌*◌, ◌≡◌, not, ◌&&◌, List, length, ltb, eqb}
use Rattle.base.specs.Pick.{pick}
use Rattle.base.specs.Bytes.{put}
use Rattle.megaco.specs.Table.{most_lines, words, sound}
use Rattle.megaco.specs.Names.{within}
use Rattle.sessions.specs.Listing.{contexts_text}
use Rattle.row_laws.specs.Answers.{least_output}

-- what is answered: the number of the refusal or 0, the text's length, what the output then holds
pub record Written : Type 0 where
  pub refusal : ℕ
  pub size : ℕ
  pub out : List ℕ

abbrev pub refused : ℕ → List ℕ → Written
refused n o = record { refusal = n; size = 0; out = o }

unfoldable pub written : List ℕ → List ℕ → Written
written x o = record { refusal = 0; size = length x; out = put o 0 x }

-- of a table t of n lines, into an output o
unfoldable pub contexts_of : ℕ → List ℕ → List ℕ → Written
contexts_of n t o =
    pick (not (within n most_lines)) (refused 8 o)
    (pick (ltb (length o) least_output) (refused 11 o) (pick (not (eqb (length t) (words n) && sound t)) (refused 2 o) (written (contexts_text n t) o)))

-- the answer in one number of 64 bits, the length in the low 32 and the refusal in the high 32, and the output after the call
pub record Shown (w : Written) (o' : List ℕ) (r : ℕ) : Type 0 where
  pub answer : r ≡ w.size + 4294967296 * w.refusal
  pub out : o' ≡ w.out

-- What writing and reading a row answer, and what they leave (document 02, CR 14).
use Rattle.std.specs.declared.result.Result.{Result}
use Rattle.row_laws.specs.declared.RowError.{RowError}
use Rattle.row_laws.specs.declared.RowError.TheVariants.{LinesUnfit, OutputTooShort, TableUnsound, RowUnfit}
use Rattle.std.specs.Prelude.{ℕ, ◌*◌, ◌≡◌, Bool, true, false, ◌&&◌, List, length, ltb, eqb, Ok, Err}
use Rattle.base.specs.Pick.{pick}
use Rattle.base.specs.Bytes.{put}
use Rattle.megaco.specs.Table.{most_lines, words, sound}
use Rattle.megaco.specs.Names.{within}
use Rattle.row_laws.specs.Row.{row_of}

-- what a caller is told: done, with the length of the row, or why not
abbrev pub Answer : Type 0
Answer = Result ℕ RowError

-- document 02's number of a refusal
unfoldable pub number_of : RowError → ℕ
number_of LinesUnfit = 8
number_of OutputTooShort = 11
number_of TableUnsound = 2
number_of RowUnfit = 10

-- a sound table of n lines
unfoldable pub sound_of : ℕ → List ℕ → Bool
sound_of n t = eqb (length t) (words n) && sound t

-- "an output under 8,192 bytes"
abbrev pub least_output : ℕ
least_output = 8192

-- "Refusals: writing, 8, then 11 for an output under 8,192 bytes, then 2"
unfoldable pub write_answer : ℕ → List ℕ → List ℕ → Answer
write_answer n t o = pick (within n most_lines) (pick (ltb (length o) least_output) (Err OutputTooShort) (pick (sound_of n t) (Ok (length (row_of n t))) (Err TableUnsound))) (Err LinesUnfit)

-- "nothing written by any, and bytes after a written row stay"
unfoldable pub written : ℕ → List ℕ → List ℕ → List ℕ
written n t o = pick (within n most_lines) (pick (ltb (length o) least_output) o (pick (sound_of n t) (put o 0 (row_of n t)) o)) o

pub record Wrote (n : ℕ) (t o o' : List ℕ) (r : Answer) : Type 0 where
  pub answer : r ≡ write_answer n t o
  pub bytes : o' ≡ written n t o

-- "10 for any bytes that are not a sound table's row with that count of lines": from bytes s and a table t
pub data RowTaken (n : ℕ) (s t : List ℕ) : List ℕ → Answer → Type 0 where
  read : (u : List ℕ) → sound_of n u ≡ true → s ≡ row_of n u → RowTaken n s t u (Ok (length s))
  none : ((u : List ℕ) → sound_of n u ≡ true → s ≡ row_of n u → ⊥) → RowTaken n s t t (Err RowUnfit)

-- "reading, 8, then 2 for a table of the wrong size, then 10"
pub record Read (n : ℕ) (s t t' : List ℕ) (r : Answer) : Type 0 where
  pub count : within n most_lines ≡ false → (r ≡ Err LinesUnfit) × (t' ≡ t)
  pub sized : within n most_lines ≡ true → (length t ≡ words n → ⊥) → (r ≡ Err TableUnsound) × (t' ≡ t)
  pub taken : within n most_lines ≡ true → length t ≡ words n → RowTaken n s t t' r

-- ---- for C

-- a written row's length in the low 32 bits, the number of the refusal in the high 32
unfoldable pub packed : Answer → ℕ
packed (Ok k) = k
packed (Err e) = number_of e * 4294967296

-- the number of the refusal, 0 for a row that was read
unfoldable pub refusal_of : Answer → ℕ
refusal_of (Ok k) = 0
refusal_of (Err e) = number_of e

pub record WroteRow (n : ℕ) (t o o' : List ℕ) (r : ℕ) : Type 0 where
  pub answer : r ≡ packed (write_answer n t o)
  pub bytes : o' ≡ written n t o

pub record ReadRow (n : ℕ) (s t t' : List ℕ) (r : ℕ) : Type 0 where
  pub answer : Answer
  pub reads : Read n s t t' answer
  pub number : r ≡ refusal_of answer

-- The steps of reading a row.
use Rattle.std.specs.Prelude.{ℕ, ◌≡◌, Bool, true, false, List, Some, None}
use Rattle.groups.specs.Rows.{Bytes}
use Rattle.row_laws.specs.Row.{row_of}
use Rattle.row_laws.specs.Filling.{Filled, at, unfit, Table, table, no_table, table_over}
use Rattle.row_laws.specs.Answers.{sound_of}
use Rattle.protocol.specs.Types.{Parsed}

-- a place and a table, as one value
unfoldable pub filled_by : Parsed → List ℕ → Filled
filled_by (Some q) u = at q u
filled_by None u = unfit

-- all bytes were taken
unfoldable pub whole_by : Bool → ℕ → List ℕ → Filled
whole_by true q u = at q u
whole_by false q u = unfit

unfoldable pub table_by : Bool → List ℕ → Table
table_by true u = table u
table_by false u = no_table

-- a sound table is built from bytes over words z, or there is none
pub record Built (n : ℕ) (s z u : List ℕ) (r : Bool) : Type 0 where
  pub yes : r ≡ true → (table_over n s z ≡ table u) × (sound_of n u ≡ true)
  pub no : r ≡ false → (v : List ℕ) → table_over n s z ≡ table v → sound_of n v ≡ true → ⊥

-- the table becomes the sound one with that row, or stays and there is none
pub record Rebuilt (n : ℕ) (s t t' : List ℕ) (r : Bool) : Type 0 where
  pub yes : r ≡ true → Bytes s → (sound_of n t' ≡ true) × (row_of n t' ≡ s)
  pub stays : r ≡ false → t' ≡ t
  pub no : r ≡ false → (v : List ℕ) → sound_of n v ≡ true → row_of n v ≡ s → ⊥

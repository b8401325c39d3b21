-- A row written and read, for C.
use Prim.Native.Nat.{ℕ, ◌≤◌}
use mathlib.Core.Path.{◌≡◌, ap, ◌∙◌}
use mathlib.Core.List.{List}
use native.Mathlib.Omega.{arith}
use Rattle.row_laws.specs.declared.RowError.{RowError}
use Rattle.row_laws.specs.declared.RowError.TheVariants.{LinesUnfit, OutputTooShort, TableUnsound, RowUnfit}
use Rattle.row_laws.specs.Answers.{Answer, number_of, Wrote, packed, WroteRow}

pub number_small : (e : RowError) → number_of e ≤ 11
unfolding number_of
number_small LinesUnfit = omega arith
number_small OutputTooShort = omega arith
number_small TableUnsound = omega arith
number_small RowUnfit = omega arith

pub row_written : (n : ℕ) (t o o' : List ℕ) (a : Answer) (r : ℕ) → Wrote n t o o' a → r ≡ packed a → WroteRow n t o o' r
row_written n t o o' a r w e = record { answer = e ∙ ap packed w.answer; bytes = w.bytes }

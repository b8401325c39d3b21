-- What readers find and what tests come to, as Option and Result.
use Rattle.std.specs.Prelude.{ℕ, ⊤, Some}
use Rattle.std.specs.declared.option.Option.{Option}
use Rattle.std.specs.declared.result.Result.{Result}
use Rattle.megaco.specs.declared.Values.{Values}

-- a reader of one part: the place after it, or none where the part does not stand there
abbrev pub Parsed : Type 0
Parsed = Option ℕ

-- a reader of a number: the value and the place after it, or none
abbrev pub Number : Type 0
Number = Option (ℕ × ℕ)

abbrev pub number : ℕ → ℕ → Number
number v p = Some (v, p)

-- a value that a command's items give, or none
abbrev pub Given : Type 0
Given = Option ℕ

-- a command's items: the values given, or the first code in reading order
abbrev pub Judged : Type 0
Judged = Result Values ℕ

-- tests: all are passed, or the code of the first that fails
abbrev pub Checked : Type 0
Checked = Result ⊤ ℕ

use Rattle.std.proofs.Common.{◌≡◌, ◌≤◌, length, drop}
use Rattle.row_laws.specs.Filling.{map_word}
use Rattle.row.proofs.words.map_word.Given as goal

abbrev pub invariant-loop-i : goal.invariant-loop-i
invariant-loop-i l = record { inside : l.i ≤ length l.fn.row; word : l.w ≡ map_word (drop l.i l.fn.row) }

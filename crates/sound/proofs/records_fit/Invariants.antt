use Rattle.std.proofs.Common.{◌≡◌, ◌+◌, ◌&&◌, drop}
use Rattle.sound.specs.Parts.{records_fit}
use Rattle.sound.proofs.records_fit.Given as goal

abbrev pub invariant-loop-i : goal.invariant-loop-i
invariant-loop-i l = records_fit l.counters 1 l.records ≡ (l.good && records_fit l.counters (l.i + 1) (drop l.i l.records))

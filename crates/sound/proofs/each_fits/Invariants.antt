use Rattle.std.proofs.Common.{◌≡◌, ◌+◌, ◌*◌, ◌&&◌, drop}
use Rattle.sound.specs.Parts.{flows_fit}
use Rattle.sound.proofs.each_fits.Given as goal

abbrev pub invariant-loop-k : goal.invariant-loop-k
invariant-loop-k l = flows_fit l.counters (l.i + 1) l.flows ≡ (l.good && flows_fit l.counters (l.i + l.k + 1) (drop (2 * l.k) l.flows))

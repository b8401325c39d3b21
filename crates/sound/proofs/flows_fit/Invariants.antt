use Rattle.std.proofs.Common.{◌≡◌, ◌+◌, ◌*◌, ◌&&◌, drop}
use Rattle.sound.specs.Parts.{flows_fit}
use Rattle.sound.proofs.flows_fit.Given as goal

abbrev pub invariant-loop-b : goal.invariant-loop-b
invariant-loop-b l = flows_fit l.counters 1 l.flows ≡ (l.good && flows_fit l.counters (16 * l.b + 1) (drop (32 * l.b) l.flows))

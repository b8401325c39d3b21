use Rattle.std.proofs.Common.{◌≡◌, ◌-◌, ◌/◌, ◌^◌, ◌&&◌, drop}
use Rattle.base.specs.Lists.{same}
use Rattle.megaco.specs.Map.{digits, marks}
use Rattle.sound.proofs.half_is_sound.Given as goal

abbrev pub invariant-loop-i : goal.invariant-loop-i
invariant-loop-i l = same (digits 32 l.word) (marks l.row) ≡ (l.good && same (digits (32 - l.i) (l.word / 2 ^ l.i)) (marks (drop l.i l.row)))

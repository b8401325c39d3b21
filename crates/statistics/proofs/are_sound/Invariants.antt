use Rattle.std.proofs.Common.{◌≡◌, ◌+◌, ◌-◌}
use Rattle.megaco.specs.Blocks.{sound_from}
use Rattle.statistics.proofs.are_sound.Given as goal

abbrev pub invariant-loop-i : goal.invariant-loop-i
invariant-loop-i l = sound_from 16 l.k l.blocks ≡ sound_from (16 - l.i) (l.k + l.i) l.blocks

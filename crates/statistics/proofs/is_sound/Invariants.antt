use Rattle.std.proofs.Common.{◌≡◌, ◌-◌, ◌*◌}
use Rattle.megaco.specs.Blocks.{blocks_are_sound, sound_from}
use Rattle.statistics.proofs.is_sound.Given as goal

abbrev pub invariant-loop-g : goal.invariant-loop-g
invariant-loop-g l = blocks_are_sound l.blocks ≡ sound_from (64 - 16 * l.g) (16 * l.g) l.blocks

use Rattle.std.proofs.Common.{◌≡◌, ◌&&◌, drop}
use Rattle.base.specs.Lists.{every}
use Rattle.megaco.specs.Table.{is_property_word, absent_are_zero}
use Rattle.sound.proofs.ephemerals_are_sound.Given as goal

abbrev pub invariant-loop-i : goal.invariant-loop-i
invariant-loop-i l = (every is_property_word l.properties && absent_are_zero l.row l.properties)
    ≡ (l.good && (every is_property_word (drop l.i l.properties) && absent_are_zero (drop l.i l.row) (drop l.i l.properties)))

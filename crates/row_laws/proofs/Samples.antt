-- Computed rows.
use mathlib.Core.Path.{refl}
use Rattle.base.specs.Pick.{pick}
use Rattle.base.specs.Lists.{every, count, same}
use Rattle.megaco.specs.Square.{bits, rows, square_of, may_flow, row_is_sound, rows_are_sound, square_is_sound}
use Rattle.megaco.specs.Map.{digits, marks}
use Rattle.megaco.specs.Table.{is_ephemeral, fitted, sized, sound, context_words, property_words, record_words, ephemeral_contexts, ephemeral_properties, map_words, flow_words, speech_words, places, map_is_sound, flows_are_sound, speech_is_sound, side_is_sound, is_property_word, absent_are_zero, record_is_sound, records_are_sound}
use Rattle.groups.specs.Groups.{groups_f, number}
use Rattle.groups.specs.Rows.{encode}
use Rattle.row_laws.specs.Items.{termination_items, context_items, each, plan}
use Rattle.row_laws.specs.Row.{item_numbers, numbers_in, numbers_of, row_of}
use Rattle.row_laws.specs.Answers.{sound_of}
use Rattle.row_laws.specs.Samples.{Samples}

pub samples : Samples
unfolding row_of numbers_of numbers_in item_numbers plan each termination_items context_items is_ephemeral encode number groups_f sound_of speech_words speech_is_sound side_is_sound flow_words flows_are_sound square_is_sound rows_are_sound row_is_sound may_flow square_of rows bits fitted sized sound context_words property_words record_words ephemeral_contexts ephemeral_properties map_words places digits marks same map_is_sound every is_property_word absent_are_zero record_is_sound records_are_sound count pick
samples = record { fresh_row = refl; call_sound = refl; call_row = refl }

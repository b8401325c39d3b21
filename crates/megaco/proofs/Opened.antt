-- What a computed theorem computes by: `unfolding opened` opens every definition of crates `base` and `megaco`, so that a call is computed
-- from its bytes. A new definition is named here.
use Rattle.base.specs.Bytes.{◌then◌, decimal_f, decimal, put}
use Rattle.base.specs.Lists.{every, has, count, same, before, behind, part, is_at, lowest_absent}
use Rattle.base.specs.Pick.{pick}
use Rattle.megaco.specs.Bytes.{is_letter, is_digit, is_white, is_line_end, is_comment, is_word, is_name, is_safe, is_rest, is_quoted, is_domain, in_class, capital, capitals}
use Rattle.megaco.specs.Blocks.{block_at, with_block, cleared, difference, size_of, jitter_after, one_more, updated, reported, block_is_sound, sound_from, blocks_are_sound}
use Rattle.megaco.specs.Call.{state_fits, is_present, packet, written, replied, taken, call}
use Rattle.megaco.specs.Items.{update, onward, called, given?, descriptor_shape, property_shape, mode_given, state_given, property_token, value_given, set_value, property_items, items_in, set_speech, speech_given, speech_item, called_in, both, either, descriptor_item, media_items, top_items, bare_shape, audited_items, audit_items, audit_given, media_given, no_items, judge_items}
use Rattle.megaco.specs.Keywords.{forms_of, spelt, spells}
use Rattle.megaco.specs.Map.{digits, of_digits, digit, with_digit, marks, in_use}
use Rattle.megaco.specs.Names.{numeral, within, line_name, ephemeral_name, plain_name, line_range, wildcard_name, capital_name, name_of, in_range, name_text}
use Rattle.megaco.specs.Reading.{bind, skip, reading, read_number, spaced, list_r, unlimited, key_at, word_r, second_r, value_of, value_r, braces_r, may_be_empty, or_none_r, item_r, items_r, media_here, brace_from, speech_here, speech_r, media_item_r, media_r, top_item_r, top_r, prefix_at, prefix_end, is_property, order_r, command_r, context_r, word_here, property_r, with_property, property_then, body_r, action_of, action_r, actions_r, elsewhere, numbered, inside, followed, end_or, braces_then, transactions_r, start_at, sender_at, message_r, direction_r, party_r, triple_r, topology_r, identifier_from, range_r, ack_r, acks_r, acknowledged, request_then, acks_then, sender_r, or_no_bytes, sender_of}
use Rattle.megaco.specs.Reply.{op_text, error_text, tried_text, detail_text, code_text, report_text, separator, reports_text, context_text, action_text, earlier_text, actions_text, reply_text, limited, transaction_text, header_text, state_text, mode_text, service_states, local_control, descriptors, packets_text, jitter_text, figures}
use Rattle.megaco.specs.Attempt.{judge, seen, number_of, free_at, look, is_choose, target, room_checks, checks, joining, leaving, placed, marking, added, subtracted, changes, settled, concluded, effect, detail_of, renews, told_of, flows_of, flowing, speaks, on_line, side_writes, speaking, spoken, forgetting}
use Rattle.megaco.specs.Command.{attempts, command_error, action_error, wanted, matches_from, matches, is_add, is_null, root_targets, free_targets, match_targets, targets_of, run_targets, op_of, forbidden_in_null, no_context, from_test4, from_test2, unless_optional, from_test1, run_command, is_subtract, in_place, not_for_root}
use Rattle.megaco.specs.Action.{over15, any_given, start_checks, set_properties, start_writes, start_reports, started_by, started, link_checks, flow_writes}
use Rattle.megaco.specs.Transaction.{command_steps, no_commands, steps, begin, advance, proceed, step, run, run_transaction}
use Rattle.megaco.specs.Message.{identifier, answered, drop_all, run_part, run_parts, run_message}
use Rattle.megaco.specs.Table.{fitted, apply, context_words, property_words, record_words, ephemeral_contexts, ephemeral_properties, map_words, places, is_ephemeral, exists, known, members, free_context, free_ephemeral, used_ephemerals, is_property_word, absent_are_zero, record_is_sound, records_are_sound, sized, map_is_sound, sound, flow_words, place_in, flows_are_sound, speech_words, side_is_sound, speech_is_sound}
use Rattle.megaco.specs.Sdp.{line_length, line_end, on_first, lines_of, begins, given_at, plus, joined as joinedNumbers, dotted_part_at, dotted_pair_at, dotted_at, ending, connection_of, payload_of, audio_of, is_blank, another_letter, is_skipped, sdp_line_of, stage_after, read_sdp}
use Rattle.megaco.specs.Square.{bits, of_bits, rows, of_rows, square_of, low_of, high_of, flow_at, may_flow, row_is_sound, rows_are_sound, square_is_sound, flow_set, paired, directed, up_to, joined_flow, joined_row, joined, parted_flow, parted_row, parted}
use Rattle.megaco.specs.Topology.{triples_of, any_topology, meant, party, link_of, links_of, is_unfit, is_absent, is_outside, place_of, set_link, set_links}
use Rattle.megaco.specs.Tokens.{mark_at, sign_at, letter_at, row_from, row_at, up_to64, word_at, keyword_at, path_start, path_name_at, termination_at, number_end, number_from, number_at, after_number, quoted_at, plain_at, value_at, octets_from, octets_at, port_at, octet_at, address_at, domain_at, m_id_at, whole_at, is_mid, at_least}
use Rattle.megaco.specs.White.{after, goes_on, inside_after, stop_at, white_from, white_at, sep_at}

unfoldable pub opened : Unit {0}
unfolding set_speech speech_given speech_item called_in both either descriptor_item media_here brace_from speech_here speech_r media_item_r media_r top_item_r top_r octets_from octets_at line_length line_end on_first lines_of begins given_at plus joinedNumbers dotted_part_at dotted_pair_at dotted_at ending connection_of payload_of audio_of is_blank another_letter is_skipped sdp_line_of stage_after read_sdp digits of_digits digit with_digit marks in_use ◌then◌ decimal_f decimal put every has count same before behind part is_at lowest_absent pick is_letter is_digit is_white is_line_end is_comment is_word is_name is_safe is_rest is_quoted is_domain in_class capital capitals written replied taken call update onward called given? descriptor_shape property_shape mode_given state_given property_token value_given set_value property_items items_in media_items top_items judge_items forms_of spelt spells numeral within line_name ephemeral_name plain_name line_range wildcard_name capital_name name_of in_range name_text bind skip reading read_number spaced list_r unlimited key_at word_r second_r value_of value_r braces_r may_be_empty or_none_r item_r items_r prefix_at prefix_end is_property order_r command_r context_r word_here property_r with_property property_then body_r action_of action_r actions_r elsewhere numbered inside followed end_or braces_then transactions_r start_at sender_at message_r op_text error_text tried_text detail_text code_text report_text separator reports_text context_text action_text earlier_text actions_text reply_text limited transaction_text header_text judge seen number_of free_at look is_choose target room_checks checks joining leaving placed marking added subtracted changes settled concluded effect attempts command_error action_error wanted matches_from matches is_add is_subtract is_null root_targets free_targets match_targets targets_of run_targets op_of forbidden_in_null no_context from_test4 from_test2 unless_optional from_test1 run_command over15 any_given start_checks set_properties start_writes start_reports started_by started command_steps no_commands steps begin advance proceed step run run_transaction run_message fitted apply context_words property_words record_words ephemeral_contexts ephemeral_properties map_words places is_ephemeral exists known members free_context free_ephemeral used_ephemerals is_property_word absent_are_zero record_is_sound records_are_sound sized map_is_sound sound mark_at sign_at letter_at row_from row_at up_to64 word_at keyword_at path_start path_name_at termination_at number_end number_from number_at after_number quoted_at plain_at value_at port_at octet_at address_at domain_at m_id_at whole_at is_mid after goes_on inside_after stop_at white_from white_at sep_at bare_shape audited_items audit_items audit_given media_given no_items state_text mode_text service_states local_control descriptors detail_of in_place not_for_root bits of_bits rows of_rows square_of low_of high_of flow_at may_flow row_is_sound rows_are_sound square_is_sound flow_set paired directed up_to joined_flow joined_row joined parted_flow parted_row parted triples_of any_topology meant party link_of links_of is_unfit is_absent is_outside place_of set_link set_links direction_r party_r triple_r topology_r flows_of flowing link_checks flow_writes flow_words place_in flows_are_sound speaks on_line side_writes speaking spoken forgetting speech_words side_is_sound speech_is_sound block_at with_block cleared difference size_of jitter_after one_more updated reported block_is_sound sound_from blocks_are_sound state_fits is_present packet packets_text jitter_text figures renews told_of identifier_from range_r ack_r acks_r acknowledged request_then acks_then sender_r or_no_bytes sender_of identifier answered drop_all run_part run_parts at_least
opened = tt

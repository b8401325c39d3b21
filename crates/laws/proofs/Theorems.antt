-- The statements of specs/, each page from the laws.
use Prim.Native.Nat.{ℕ, ◌≤◌, ◌<◌}
use mathlib.Core.Path.{◌≡◌, refl, subst}
use mathlib.Core.Bool.{true}
use mathlib.Core.List.{List, [], ◌∷◌}
use Rattle.megaco.specs.Tree.{Triple, triple}
use Rattle.megaco.specs.Table.{contexts, known, members}
use Rattle.megaco.specs.Square.{Square, square_of, low_of, high_of}
use Rattle.megaco.specs.Topology.{links_of, set_links}
use Rattle.protocol.specs.Types.{Isolate, Bothway}
use Rattle.megaco.proofs.Squares.{Shape, square_back, shape_of}
use Rattle.laws.specs.Slots.{SlotsApart}
use Rattle.laws.specs.Sound.{Fit, SoundFlows, Whole, Soundness}
use Rattle.laws.specs.Bounds.{Bounds}
use Rattle.laws.specs.Demand.{Independence}
use Rattle.laws.specs.KeptReplies.{KeptReplies}
use Rattle.laws.specs.Witness.{Witnessed}
use Rattle.laws.specs.Needed.{EachNeeded}
use Rattle.laws.specs.Figures.{FiguresKept}
use Rattle.laws.specs.Packets.{PacketsCounted}
use Rattle.laws.specs.Hears.{forth, back, Hearing}
use Rattle.laws.specs.Figure7.{Figure-7}
use Rattle.laws.specs.Folding.{Rules, Merging}
use Rattle.laws.specs.FoldedSample.{Samples}
use Rattle.laws.proofs.Slots.{shared, address_below, get_same, get_other, store_comm}
use Rattle.laws.proofs.Bounds.{few_read, transaction_fits, reply_fits, refusal_keeps, call_bounded, call_taken, fault_keeps, served_follows, parts_by_the_list, repeated, room_keeps}
use Rattle.laws.proofs.Senders.{sender_short}
use Rattle.laws.proofs.KeptRuns.{sixteen, either_order_kept, any_mixture_kept}
use Rattle.laws.proofs.RoomEmpty.{empty_room}
use Rattle.laws.proofs.RoomFacts.{sound_room, room_sound_lem}
use Rattle.laws.proofs.Demand.{either_order, any_mixture}
use Rattle.laws.proofs.ApartTest.{apart_is}
use Rattle.laws.proofs.Witness.{reads_one, reads_two, start_sound, both_change, share_the_map, replies, apart, turn_by_turn}
use Rattle.laws.proofs.Needed.{shared_context, start_contexts, shared_termination, chosen_termination, wildcard, chosen_context, unnamed_triple}
use Rattle.laws.proofs.Flows.{sound_packed}
use Rattle.laws.proofs.Sound.{sound_whole, whole_sound, free_walk, used_walk, number_free, number_used, fresh_sound}
use Rattle.laws.proofs.Attempts.{both_known}
use Rattle.laws.proofs.Linked.{passed_fine}
use Rattle.laws.proofs.Runs.{call_length}
use Rattle.laws.proofs.Kept.{transaction_sound, message_sound, call_sound}
use Rattle.laws.proofs.Figures.{sound_blocks, blocks_sound, fresh_blocks, one_attempt, call_reached, call_length_blocks, call_blocks_sound}
use Rattle.laws.proofs.PacketSample.{packet_sample}
use Rattle.laws.proofs.Packets.{figures, size_of_difference, never_passes, closer, closest, reports, packet_number, packet_down, packet_taken, packet_keeps}
use Rattle.laws.proofs.Figure7.{panel_1, panel_2, panel_3, panel_4, panel_5, panel_6}
use Rattle.laws.proofs.Hearing.{start_sets, second_hears_first, first_hears_second, others_as_before}
use Rattle.laws.proofs.Folding.{folded_once, fine_passed, fine_folded, folded_fine, fold_sets, list_places, list_last, list_twice, list_turned}
use Rattle.laws.proofs.Shortest.{folded_shortest}
use Rattle.laws.proofs.FoldedStart.{merged_passes, merged_refused, merged_step, merged_table, merged_action}
use Rattle.laws.proofs.FoldedSample.{sound_both, twice, isolate, bothway, last, last_turned, places, oneway_exchanged, one_pair_exchanged, turned_pair_exchanged, other_pair_left_out, merges, ends_alike, refused_apart, set_already}

pub slots_apart : SlotsApart
slots_apart = record { within = address_below; shared = shared; get_same = get_same; get_other = get_other; store_comm = store_comm }

pub soundness : Soundness
soundness =
    record {
      tested = λ t. (sound_whole t, whole_sound t);
      fresh = fresh_sound;
      transaction_keeps = transaction_sound;
      message_keeps = message_sound;
      call_keeps = call_sound;
      call_length = call_length;
      free_walk = free_walk;
      used_walk = used_walk;
      number_free = number_free;
      number_used = number_used;
    }

pub bounds : Bounds
bounds =
    record {
      few_read = few_read;
      transaction_fits = transaction_fits;
      reply_fits = reply_fits;
      turned_down = refusal_keeps;
      bounded = call_bounded;
      taken = call_taken;
      fault_keeps = fault_keeps;
    }

pub independence : Independence
independence = record { either_order = either_order; any_mixture = any_mixture; tested = apart_is }

pub kept_replies : KeptReplies
kept_replies =
    record {
      tested = λ r. (sound_room r, room_sound_lem r);
      empty = empty_room;
      sender_fits = sender_short;
      call_keeps = room_keeps;
      sixteen = sixteen;
      by_the_list = λ m st r s. (served_follows m st r s).noted_is;
      parts_by_the_list = parts_by_the_list;
      repeated = repeated;
      either_order = either_order_kept;
      any_mixture = any_mixture_kept;
    }

pub witnessed : Witnessed
witnessed =
    record {
      reads_one = reads_one;
      reads_two = reads_two;
      start_sound = start_sound;
      apart = apart;
      both_change = both_change;
      share_the_map = share_the_map;
      replies = replies;
      turn_by_turn = turn_by_turn;
    }

pub each_needed : EachNeeded
each_needed =
    record {
      shared_context = shared_context;
      start_contexts = start_contexts;
      shared_termination = shared_termination;
      chosen_termination = chosen_termination;
      wildcard = wildcard;
      chosen_context = chosen_context;
      unnamed_triple = unnamed_triple;
    }

pub figures_kept : FiguresKept
figures_kept =
    record {
      tested = λ b. (sound_blocks b, blocks_sound b);
      fresh = fresh_blocks;
      one_attempt = one_attempt;
      reached = call_reached;
      call_keeps = call_blocks_sound;
      call_length = call_length_blocks;
    }

pub packets_counted : PacketsCounted
packets_counted =
    record {
      figures = figures;
      size = size_of_difference;
      never_passes = never_passes;
      closer = closer;
      closest = closest;
      reports = reports;
      sample = packet_sample;
      number = packet_number;
      down = packet_down;
      taken = packet_taken;
      keeps = packet_keeps;
    }

pub hearing : Hearing
hearing =
    record {
      sets = start_sets;
      second_hears_first = second_hears_first;
      first_hears_second = first_hears_second;
      others_as_before = others_as_before;
    }

pub figure_7 : Figure-7
figure_7 = record { panel_1 = panel_1; panel_2 = panel_2; panel_3 = panel_3; panel_4 = panel_4; panel_5 = panel_5; panel_6 = panel_6 }

-- ---- merging

module _ (c : ℕ) (t : List ℕ) (W : Whole t) (p : 0 < c) (q : c ≤ contexts) where
  here : known c ≡ true
  here = both_known c p q

  few : members c t ≤ 8
  few = (W.held c p q).room

  -- lists that set the same of every two sound words set the same of every square that the context may have
  of_squares : (ts us : List Triple) → ((low high : ℕ) → SoundFlows low high (members c t) → set_links (links_of c t us) (square_of low high) ≡ set_links (links_of c t ts) (square_of low high))
      → (s : Square) → Shape s → Fit (members c t) s → set_links (links_of c t us) s ≡ set_links (links_of c t ts) s
  of_squares ts us f s h k =
      subst (λ (z : Square). set_links (links_of c t us) z ≡ set_links (links_of c t ts) z) (square_back s h) (f (low_of s) (high_of s) (sound_packed s (members c t) h k))

  rules : Rules c t
  unfolding forth back
  rules =
      record {
        twice = λ before x after low high f. list_twice c t W.long here few before x after (square_of low high) (shape_of low high) (passed_fine c t (x ∷ []) f).0;
        isolate = λ before a b after low high f. list_turned c t W.long here few before a b Isolate after (square_of low high) (shape_of low high) (passed_fine c t (triple a b Isolate ∷ []) f).0 refl;
        bothway = λ before a b after low high f. list_turned c t W.long here few before a b Bothway after (square_of low high) (shape_of low high) (passed_fine c t (triple a b Bothway ∷ []) f).0 refl;
        last = λ before x y after low high f. let g = passed_fine c t (x ∷ y ∷ []) f in list_last c t W.long here few before x y after (square_of low high) (shape_of low high) g.0 g.1.0;
        places = λ before x y after low high f. let g = passed_fine c t (x ∷ y ∷ []) f in list_places c t W.long here few before x y after (square_of low high) (shape_of low high) g.0 g.1.0;
        fold = λ ts low high f. fold_sets c t W.long here few ts (square_of low high) (shape_of low high) (passed_fine c t ts f);
        shortest = λ ts us f g e. folded_shortest c t W p q ts us (passed_fine c t ts f) (passed_fine c t us g) (of_squares ts us e);
      }

pub merging : Merging
merging =
    record {
      rules = rules;
      once_each = folded_once;
      refused_alike = λ c t ts. (λ p. fine_passed c t ts (folded_fine c t ts (passed_fine c t _ p)), λ p. fine_passed c t _ (fine_folded c t ts (passed_fine c t ts p)));
      start_alike = λ c ps alone st acts s. merged_step c ps alone st acts (sound_whole st.table s);
      transaction_alike = merged_action;
      start_refused = λ c ps alone t W e. (merged_refused c ps alone t e, merged_passes c ps alone t W e);
      table_alike = merged_table;
    }

pub samples : Samples
samples =
    record {
      sound_both = sound_both;
      twice = twice;
      isolate = isolate;
      bothway = bothway;
      last = last;
      last_turned = last_turned;
      places = places;
      oneway_exchanged = oneway_exchanged;
      one_pair_exchanged = one_pair_exchanged;
      turned_pair_exchanged = turned_pair_exchanged;
      other_pair_left_out = other_pair_left_out;
      merges = merges;
      ends_alike = ends_alike;
      refused_apart = refused_apart;
      set_already = set_already;
    }

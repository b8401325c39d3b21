-- A spare that comes up from a row: demands 2 and 3 start anew from it.
use mathlib.Core.Path.{◌≡◌}
use Rattle.laws.proofs.Packets.{state_test, not_up}
use Rattle.laws.proofs.RoomFacts.{sound_room}
use Rattle.megaco.specs.Call.{state_fits}
use Rattle.row_laws.specs.Carried.{spare_state, spare_room, Carried}
use Rattle.row_laws.proofs.Theorems.{carried}
use Rattle.demands.specs.Demands.{all_fit, empty}
use Rattle.demands.specs.Spare.{Spare}
use Rattle.demands.proofs.Theorems.{demand_1, demand_2, demand_3, reached_genuine}

pub spare : Spare
spare n b z u k r =
    let a = carried.anew n b z u k r in
    record {
      taken = λ m own o c f g h.
          ((demand_1 n m (spare_state u) spare_room own o c).number 0).1
          (all_fit a.lines f ((state_test n (spare_state u)).0 (not_up (state_fits n (spare_state u)) a.state)) (sound_room spare_room a.room) g h);
      second = λ m own o c e.
          let d = demand_2 n m (spare_state u) spare_room own o c e in (d.0, d.1, d.2 (reached_genuine spare_room (empty a.keeps_none)));
      third = λ s t x y w.
          demand_3 (spare_state u) _ s t x y
          (record {
            start = (carried.read_table n b z u k r).sound_table;
            formed_one = w.formed_one;
            formed_two = w.formed_two;
            contexts_one = w.contexts_one;
            contexts_two = w.contexts_two;
            names_one = w.names_one;
            names_two = w.names_two;
            terminations = w.terminations;
            contexts = w.contexts;
            pairs = a.pairs s t x y w.pairs;
          });
    }

-- The three demands, met.
use Rattle.laws.proofs.Sound.{sound_whole, whole_sound}
use Rattle.laws.proofs.Figures.{sound_blocks, blocks_sound}
use Rattle.laws.proofs.RoomFacts.{sound_room, room_sound_lem}
use Rattle.demands.specs.Demands.{From-C, Soundness, Demand-1, Packets, Demand-2, Reached-Genuine, Repeated, Demand-3, Pair}
use Rattle.demands.proofs.Turning
use Rattle.demands.proofs.Admitting
use Rattle.demands.proofs.Repeating
use Rattle.demands.proofs.Ordering
use Rattle.demands.proofs.Witness

pub from_c : From-C
from_c = Turning.from_c

pub soundness : Soundness
soundness = (λ t. (sound_whole t, whole_sound t), λ b. (sound_blocks b, blocks_sound b), λ r. (sound_room r, room_sound_lem r))

pub demand_1 : Demand-1
demand_1 = Turning.demand_1

pub packets : Packets
packets = Turning.packets

pub demand_2 : Demand-2
demand_2 = Admitting.demand_2

pub reached_genuine : Reached-Genuine
reached_genuine = Repeating.reached_genuine

pub repeated : Repeated
repeated = Repeating.repeats

pub demand_3 : Demand-3
demand_3 = Ordering.demand_3

pub demand_3_met : Pair
demand_3_met = Witness.pair

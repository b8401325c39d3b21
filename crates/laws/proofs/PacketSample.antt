-- From an Add to a Subtract, computed.
use mathlib.Core.Path.{refl}
use lib.ListN.{replicate}
use Rattle.megaco.specs.Table.{words}
use Rattle.megaco.specs.Blocks.{block_words}
use Rattle.megaco.specs.State.{State, state}
use Rattle.megaco.specs.Call.{packet}
use Rattle.megaco.proofs.Opened.{opened}
use Rattle.laws.specs.Figures.{attempted}
use Rattle.laws.specs.Packets.{Packet, hello, added, its, PacketSample}

-- the state after a packet of `R/1`
abbrev then_packet : Packet → State → State
then_packet p st = state st.table (packet 1 st 1 p.arrival p.stamp).blocks

abbrev fresh : State
fresh = state (replicate (words 1) 0) (replicate block_words 0)

abbrev one : Packet
one = record { arrival = 1000; stamp = 0 }

abbrev two : Packet
two = record { arrival = 1300; stamp = 160 }

abbrev third : Packet
third = record { arrival = 1420; stamp = 320 }

pub packet_sample : PacketSample
unfolding opened
packet_sample =
    record {
      state = then_packet third (then_packet two (then_packet one (attempted hello fresh).state));
      saw = its (its (its (added hello fresh refl (refl, refl, refl)) one refl) two refl) third refl;
      meets = refl;
      told = refl;
    }

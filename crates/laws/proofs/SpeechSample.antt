-- Where the speech goes, computed.
use mathlib.Core.Path.{refl}
use native.Mathlib.Omega.{arith}
use Rattle.megaco.proofs.Opened.{opened}
use Rattle.laws.specs.Witness.{with_words}
use Rattle.laws.specs.SpeechSample.{table_after, reported, SpeechSamples}

pub speech_samples : SpeechSamples
unfolding opened with_words table_after reported
speech_samples =
    record {
      set = refl;
      other_stays = refl;
      released = refl;
      on_a_line = refl;
      line_stays = refl;
      place_first = refl;
      added = refl;
      moved = refl;
      forgotten = refl;
      tried_modify = record { whole = refl; there = omega arith; allowed = refl; context = refl };
      tried_move = record { whole = refl; there = omega arith; allowed = refl; context = refl };
    }

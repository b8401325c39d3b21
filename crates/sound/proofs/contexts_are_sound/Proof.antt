use borrow.Author.Rules.{rules}
use Prim.Native.Nat.{◌-◌}
use mathlib.Core.Path.{sym}
use lib.ListN.{length}
use Rattle.sound.proofs.SoundLaws.{Counting, counting_start, counting_on, counting_nulls, counting_no, counting_end, counter_fits}
use Rattle.sound.proofs.contexts_are_sound.Statement.{statement}
use Rattle.sound.proofs.contexts_are_sound.Tie as tie

abbrev invariant-loop : tie.invariant-loop-i
invariant-loop row records flows counters₀ i₀ counters i = Counting row counters i

abbrev decreases-loop : tie.decreases-loop-i
decreases-loop row records flows counters₀ i₀ counters i = length row - i

pub contexts_are_sound_spec : {M : Type 1} → statement M
contexts_are_sound_spec =
    tie.close
    (tie.spec
    invariant-loop
    decreases-loop
    (λ c. counting_start _)
    (λ c. search rules)
    (λ c. search rules)
    (λ c. search counting_no)
    (λ c. search rules)
    (λ c. search rules)
    (λ c. search rules)
    (λ c. search counter_fits)
    (λ c. search rules)
    (λ c. search rules)
    (λ c. search rules)
    (λ c. search rules)
    (λ c. search counting_on)
    (λ c κs. search rules)
    (λ c. search rules)
    (λ c. search counting_nulls)
    (λ c. sym c.loop-i.invariant.long)
    (λ c κs. search rules)
    (λ c. search counting_end))

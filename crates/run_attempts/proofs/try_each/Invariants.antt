use Rattle.std.proofs.Common.{◌≡◌, true, length}
use lib.ListN.{drop}
use Rattle.megaco.specs.State.{state}
use Rattle.megaco.specs.Command.{attempts}
use Rattle.run_attempts.proofs.RunsToLaws.{Leads}
use Rattle.run_attempts.proofs.try_each.Given as goal

-- the attempts so far lead to those that are left
abbrev pub invariant-loop-i : goal.invariant-loop-i
invariant-loop-i l =
    (length l.table ≡ length l.initial.table) × (length l.blocks ≡ length l.initial.blocks) × (length l.out ≡ length l.initial.out)
    × Leads (attempts l.op true l.name l.initial.here.given l.values l.matched l.initial.here.at (state l.initial.table l.initial.blocks)) l.initial.here.first l.initial.out l.initial.here.next l.going
    (attempts l.op true l.name l.here.given l.values (drop l.i-index l.matched) l.here.at (state l.table l.blocks)) l.here.first l.out l.here.next

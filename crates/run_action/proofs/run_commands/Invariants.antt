use Rattle.std.proofs.Common.{◌≡◌, ◌-◌, true, length}
use Rattle.megaco.specs.State.{state}
use Rattle.read_command.specs.Production.{list_p}
use Rattle.read_command.specs.Places.{command_at, commands_at}
use Rattle.run_attempts.proofs.RunsToLaws.{Leads}
use Rattle.run_action.specs.Fold.{run_commands}
use Rattle.run_action.proofs.run_commands.Given as goal

-- the commands so far lead to those that are left
abbrev pub invariant-loop-n : goal.invariant-loop-n
invariant-loop-n l =
    (length l.table ≡ length l.initial.table) × (length l.blocks ≡ length l.initial.blocks) × (length l.out ≡ length l.initial.out)
    × ((commands_at l.s l.from).end ≡ (list_p (command_at l.s) l.s (64 - l.n) l.i).end)
    × Leads (run_commands (commands_at l.s l.from).tree l.initial.here.given l.initial.here.at (state l.initial.table l.initial.blocks)) l.initial.here.first l.initial.out l.initial.here.next true
    (run_commands (list_p (command_at l.s) l.s (64 - l.n) l.i).tree l.here.given l.here.at (state l.table l.blocks)) l.here.first l.out l.here.next

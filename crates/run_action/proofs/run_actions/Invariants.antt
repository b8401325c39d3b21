use Rattle.std.proofs.Common.{◌≡◌, ◌-◌, true, length}
use Rattle.megaco.specs.State.{state}
use Rattle.megaco.specs.Table.{sound}
use Rattle.read_command.specs.Production.{list_p}
use Rattle.read_command.specs.Places.{action_at, actions_at}
use Rattle.run_action.specs.Fold.{run_actions}
use Rattle.run_action.proofs.ActsLaws.{Leads}
use Rattle.run_action.proofs.run_actions.Given as goal

-- the actions so far lead to those that are left
abbrev pub invariant-loop-n : goal.invariant-loop-n
invariant-loop-n l =
    (length l.table ≡ length l.initial.table) × (length l.blocks ≡ length l.initial.blocks) × (length l.out ≡ length l.initial.out) × (sound l.table ≡ true)
    × ((actions_at l.s l.from).end ≡ (list_p (action_at l.s) l.s (16 - l.n) l.i).end)
    × Leads (run_actions (actions_at l.s l.from).tree true (state l.initial.table l.initial.blocks)) l.initial.out l.p (run_actions (list_p (action_at l.s) l.s (16 - l.n) l.i).tree l.first (state l.table l.blocks)) l.out l.q

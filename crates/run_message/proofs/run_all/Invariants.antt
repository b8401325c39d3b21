use Rattle.std.proofs.Common.{◌≡◌, ◌-◌, length, true}
use Rattle.megaco.specs.Table.{sound}
use Rattle.megaco.specs.State.{state}
use Rattle.megaco.specs.Room.{room}
use Rattle.megaco.specs.Message.{run_parts}
use Rattle.read_command.specs.Messages.{transactions_at, message_of}
use Rattle.run_message.proofs.ServeLaws.{Leads}
use Rattle.run_message.proofs.run_all.Given as goal

-- what is left leads to the whole
abbrev pub invariant-loop-n : goal.invariant-loop-n
invariant-loop-n l =
    (length l.table ≡ length l.initial.table) × (length l.blocks ≡ length l.initial.blocks) × (length l.words ≡ length l.initial.words) × (length l.bytes ≡ length l.initial.bytes)
    × (length l.out ≡ length l.initial.out) × (sound l.table ≡ true)
    × Leads (run_parts l.mid (message_of l.s) (state l.initial.table l.initial.blocks) (room l.initial.words l.initial.bytes)) l.initial.out l.p
    (run_parts l.mid (transactions_at (8 - l.n) l.s l.i).tree (state l.table l.blocks) (room l.words l.bytes)) l.out l.q l.told

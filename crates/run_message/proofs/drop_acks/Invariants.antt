use Rattle.std.proofs.Common.{◌≡◌, length}
use Rattle.megaco.specs.Room.{room}
use Rattle.megaco.specs.Message.{drop_all}
use Rattle.read_command.specs.Places.{acks_at}
use Rattle.run_message.proofs.ServeLaws.{Dropping}
use Rattle.run_message.proofs.drop_acks.Given as goal

-- what is left to drop, and its end
abbrev pub invariant-loop-n : goal.invariant-loop-n
invariant-loop-n l =
    (length l.words ≡ length l.initial.words) × Dropping (drop_all l.mid (acks_at l.s l.at).tree (room l.initial.words l.bytes)) (acks_at l.s l.at).end l.mid l.s l.n l.i (room l.words l.bytes)

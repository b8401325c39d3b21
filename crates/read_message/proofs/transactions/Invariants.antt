use Rattle.std.proofs.Common.{◌≡◌, ◌-◌}
use Rattle.read_command.specs.Messages.{transactions_at}
use Rattle.read_message.proofs.transactions.Given as goal

-- what is left of the parts from here tells the verdict
abbrev pub invariant-loop-n : goal.invariant-loop-n
invariant-loop-n l = (transactions_at (8 - l.n) l.s l.i).verdict ≡ (transactions_at 8 l.s l.at).verdict

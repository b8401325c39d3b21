use Rattle.std.proofs.Common.{◌≡◌, ◌-◌}
use Rattle.texts.specs.Texts.{transactions_holders, sought, found_in, message_sought}
use Rattle.texts.proofs.find.Given as goal

-- what is found from here is what is found
abbrev pub invariant-loop-n : goal.invariant-loop-n
invariant-loop-n l = found_in (sought (transactions_holders (8 - l.n) l.s l.i) 0 l.left) ≡ message_sought l.s l.k

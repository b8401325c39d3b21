use Rattle.digits.specs.Symbols.{symbols_of}
use Rattle.plain_digits.proofs.ListLaws.{TriesHere}
use Rattle.plain_digits.proofs.tries_list.Given as goal

abbrev pub invariant-loop : goal.invariant-loop
invariant-loop l = TriesHere l.fn.s (symbols_of l.fn.string) l.i l.counter l.known

use Rattle.map_text.proofs.SelectorLaws.{LettersHere}
use Rattle.map_text.proofs.letters.Given as goal

abbrev pub invariant-loop : goal.invariant-loop
invariant-loop l = LettersHere l.fn.s l.fn.at l.counter l.x

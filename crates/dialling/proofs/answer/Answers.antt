use Rattle.std.proofs.Common.{rules, tests}
use Rattle.dialling.proofs.DialLaws.{answer_first, answer_later}
use Rattle.dialling.proofs.answer.Goals as goal

pub returns-then-is_empty : goal.returns-then-is_empty
returns-then-is_empty c = search (answer_first, rules, tests)

pub returns-else-is_empty : goal.returns-else-is_empty
returns-else-is_empty c = search (answer_later, rules, tests)

use lib.Dec.{lit<}
use Rattle.digits.specs.DigitMap.{element_at, dot_at}
use Rattle.text.proofs.TextLaws.{next_fits}
use Rattle.map_text.proofs.PartLaws.{parts, element_size}
use Rattle.map_text.proofs.element.Goals as goal

pub overflow_add-result : goal.overflow_add-result
overflow_add-result c = search (element_size, lit<, c.in_ok-x.was)

pub overflow_add-result-then-is_at : goal.overflow_add-result-then-is_at
overflow_add-result-then-is_at c = search (next_fits, lit<)

pub returns-then-is_at : goal.returns-then-is_at
returns-then-is_at c = unfold element_at dot_at in search (parts, c.in_ok-x.was) depth 12

pub returns : goal.returns
returns c = unfold element_at dot_at in search (parts, c.in_ok-x.was) depth 12

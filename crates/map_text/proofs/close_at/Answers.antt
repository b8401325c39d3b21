use Rattle.digits.specs.DigitMap.{close_at}
use Rattle.map_text.proofs.PartLaws.{parts, close_fits}
use Rattle.text.proofs.TextLaws.{next_fits}
use lib.Dec.{lit<}
use Rattle.map_text.proofs.close_at.Goals as goal

pub returns-in_default : goal.returns-in_default
returns-in_default c = unfold close_at in search parts depth 12

pub overflow_add-p : goal.overflow_add-p
overflow_add-p c = search (next_fits, lit<)

pub returns-in_default-v : goal.returns-in_default-v
returns-in_default-v c = unfold close_at in search parts depth 12

pub overflow_add-result : goal.overflow_add-result
overflow_add-result c = search (close_fits, lit<)

pub returns-then-is_at : goal.returns-then-is_at
returns-then-is_at c = unfold close_at in search parts depth 12

pub returns : goal.returns
returns c = unfold close_at in search parts depth 12

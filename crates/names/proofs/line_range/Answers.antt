use Rattle.names.proofs.NameLaws.{range_yes, range_no}
use Rattle.names.proofs.line_range.Goals as goal

pub returns-then-is_word-within : goal.returns-then-is_word-within
returns-then-is_word-within c = search range_yes

pub returns : goal.returns
returns c = search range_no

use Rattle.names.proofs.NameLaws.{name_root, name_chosen, name_unchosen, name_wild, name_plain}
use Rattle.names.proofs.name_of.Goals as goal

pub returns-then-is_word : goal.returns-then-is_word
returns-then-is_word c = search name_root

pub returns-then-is_word-2 : goal.returns-then-is_word-2
returns-then-is_word-2 c = search name_chosen

pub returns-then-has_byte : goal.returns-then-has_byte
returns-then-has_byte c = search name_unchosen

pub returns-then-has_byte-2 : goal.returns-then-has_byte-2
returns-then-has_byte-2 c = search name_wild

pub returns : goal.returns
returns c = search name_plain

use Rattle.names.proofs.NameLaws.{plain_line, plain_ephemeral, plain_none}
use Rattle.names.proofs.plain_name.Goals as goal

pub returns-then-is_word : goal.returns-then-is_word
returns-then-is_word c = search plain_line

pub returns-then-is_word-2 : goal.returns-then-is_word-2
returns-then-is_word-2 c = search plain_ephemeral

pub returns : goal.returns
returns c = search plain_none

use Rattle.plain_digits.proofs.ListLaws.{plain_answer, plain_string, plain_map}
use Rattle.plain_digits.proofs.dial_plain.Goals as goal

pub returns-in_default : goal.returns-in_default
returns-in_default c = search plain_map

pub returns-then-not-is_dialled : goal.returns-then-not-is_dialled
returns-then-not-is_dialled c = search plain_string

pub returns : goal.returns
returns c = search plain_answer

use Rattle.square.proofs.SquareLaws.{joined_self, joined_else, joined_none}
use Rattle.square.proofs.joined_row.Goals as goal

pub returns-then-i-k : goal.returns-then-i-k
returns-then-i-k c = search joined_self

pub returns-then-i-m : goal.returns-then-i-m
returns-then-i-m c = search joined_else

pub returns : goal.returns
returns c = search joined_none

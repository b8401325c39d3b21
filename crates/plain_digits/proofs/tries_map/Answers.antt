use lib.Dec.{lit<}
use Rattle.text.proofs.TextLaws.{next_fits}
use Rattle.plain_digits.proofs.ListLaws.{map_none, map_list, map_bare}
use Rattle.plain_digits.proofs.tries_map.Goals as goal

pub returns-in_default : goal.returns-in_default
returns-in_default c = search map_none

pub overflow_add-p : goal.overflow_add-p
overflow_add-p c = search (next_fits, lit<)

pub returns-then-is_at : goal.returns-then-is_at
returns-then-is_at c = search map_list

pub returns : goal.returns
returns c = search map_bare

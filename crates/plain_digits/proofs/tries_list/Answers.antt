use Rattle.plain_digits.proofs.ListLaws.{tries_enough, tries_broken, bar_fits, bar_fits_2, tries_on, tries_last, tries_many}
use Rattle.plain_digits.proofs.tries_list.Goals as goal

pub returns-then-known : goal.returns-then-known
returns-then-known c = search tries_enough

pub returns-in_default : goal.returns-in_default
returns-in_default c = search tries_broken

pub returns-then-not-is_at : goal.returns-then-not-is_at
returns-then-not-is_at c = search tries_last

pub overflow_add-i : goal.overflow_add-i
overflow_add-i c = search bar_fits

pub overflow_add-i-in-loop : goal.overflow_add-i-in-loop
overflow_add-i-in-loop c = search bar_fits_2

pub loop-preserved : goal.loop-preserved
loop-preserved c = search tries_on

pub returns : goal.returns
returns c = search tries_many

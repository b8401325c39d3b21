use Rattle.dialling.proofs.StoreLaws.{list_broken, list_fits, list_fits_2, list_on, list_last, list_unended, list_many}
use Rattle.dialling.proofs.list.Goals as goal

pub returns-in_default : goal.returns-in_default
returns-in_default c = search list_broken

pub overflow_add-i : goal.overflow_add-i
overflow_add-i c = search list_fits

pub overflow_add-i-then-is_at : goal.overflow_add-i-then-is_at
overflow_add-i-then-is_at c = search list_fits_2

pub returns-then-ends_at : goal.returns-then-ends_at
returns-then-ends_at c = search list_last

pub returns-else-is_at : goal.returns-else-is_at
returns-else-is_at c = search list_unended

pub loop-preserved : goal.loop-preserved
loop-preserved c = search list_on

pub returns : goal.returns
returns c = search list_many

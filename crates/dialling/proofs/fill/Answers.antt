use Rattle.dialling.proofs.StoreLaws.{fill_fits, fill_on, fill_stop, fill_bad, fill_many}
use Rattle.dialling.proofs.fill.Goals as goal

pub overflow_add-i : goal.overflow_add-i
overflow_add-i c = search fill_fits

pub returns-in-Ok-None : goal.returns-in-Ok-None
returns-in-Ok-None c = search fill_stop

pub returns-in-Err : goal.returns-in-Err
returns-in-Err c = search fill_bad

pub loop-preserved : goal.loop-preserved
loop-preserved c = search fill_on

pub returns : goal.returns
returns c = search fill_many

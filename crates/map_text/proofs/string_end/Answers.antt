use Rattle.map_text.proofs.PartLaws.{string_start, string_long, string_fits, string_on, string_none, string_stop, string_bad, string_many}
use Rattle.map_text.proofs.string_end.Goals as goal

pub loop-n-init : goal.loop-n-init
loop-n-init c = search string_start

pub returns-then-left-x : goal.returns-then-left-x
returns-then-left-x c = search string_long

pub overflow_add-i : goal.overflow_add-i
overflow_add-i c = search string_fits

pub returns-then-n-eq0 : goal.returns-then-n-eq0
returns-then-n-eq0 c = search string_none

pub returns-in-Ok-None : goal.returns-in-Ok-None
returns-in-Ok-None c = search string_stop

pub returns-in-Err : goal.returns-in-Err
returns-in-Err c = search string_bad

pub loop-n-preserved : goal.loop-n-preserved
loop-n-preserved c = search string_on

pub returns : goal.returns
returns c = search string_many

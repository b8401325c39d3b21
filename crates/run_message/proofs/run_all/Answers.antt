use Rattle.std.proofs.Common.{rules, refl}
use Rattle.run_message.proofs.ServeLaws.{message_begins, parts_none, parts_last, parts_more, serves_sound}
use Rattle.run_message.proofs.run_all.Goals as goal

pub loop-n-init : goal.loop-n-init
loop-n-init c = (refl, refl, refl, refl, refl, search rules, search message_begins)

pub returns-then-s-m : goal.returns-then-s-m
returns-then-s-m c = search parts_last

pub loop-n-preserved : goal.loop-n-preserved
loop-n-preserved c = (search rules, search rules, search rules, search rules, search rules, search serves_sound, search parts_more)

pub returns : goal.returns
returns c = search parts_none

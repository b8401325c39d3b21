use Rattle.judge_items.proofs.CallLaws.{judged_right, judged_wrong}
use Rattle.megaco.specs.Items.{judge_items}
use Rattle.command_places.specs.Found.{items_from, command_end_from}
use Rattle.judge_items.proofs.judge_items.Goals as goal

pub returns-in-Ok : goal.returns-in-Ok
returns-in-Ok c = judged_right (judge_items c.args.op (items_from c.args.s.now c.args.p)) (command_end_from c.args.s.now c.args.p) c.judge_inside.result c.judge_inside.ensures c.in-Ok.x c.in-Ok.is

pub returns-in-Err : goal.returns-in-Err
returns-in-Err c = (judged_wrong (judge_items c.args.op (items_from c.args.s.now c.args.p)) (command_end_from c.args.s.now c.args.p) c.judge_inside.result c.judge_inside.ensures c.in-Err.code c.in-Err.is, c.command_end.ensures)

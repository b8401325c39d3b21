use Rattle.megaco.specs.Items.{no_items}
use Rattle.command_places.specs.Found.{items_from}
use Rattle.judge_items.proofs.CallLaws.{command_bare, none_wrong, none_right}
use Rattle.judge_items.proofs.judge_none.Goals as goal

pub returns-in-Some : goal.returns-in-Some
returns-in-Some c = none_wrong c.args.s.now c.args.p c.in-Some.field-0 c.in-Some.is

pub returns-in-None : goal.returns-in-None
returns-in-None c = command_bare c.args.s.now c.args.p c.unchanged.result (no_items (items_from c.args.s.now c.args.p)) c.in-None.is (rw c.unchanged.ensures (none_right c.args.s.now c.args.p c.in-None.is))

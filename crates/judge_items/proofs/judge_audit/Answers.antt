use Rattle.std.proofs.Common.{false}
use Rattle.megaco.specs.Items.{audit_given, audit_items, items_in}
use Rattle.read_command.specs.Places.{top_at}
use Rattle.command_places.specs.Found.{items_from}
use Rattle.judge_items.proofs.CallLaws.{all_inside, audit_some, audit_none}
use Rattle.judge_items.proofs.judge_audit.Goals as goal

pub returns-in-Some : goal.returns-in-Some
returns-in-Some c =
    all_inside c.args.s.now c.args.p (audit_given (items_in (items_from c.args.s.now c.args.p))) (λ i. audit_items (top_at c.args.s.now i).tree false c.unchanged.result) c.audit_items.result c.closed.result c.in-Some.inside c.in-Some.is
    c.audit_items.ensures c.closed.ensures (rw c.unchanged.ensures (audit_some c.args.s.now c.args.p c.in-Some.inside c.in-Some.is))

pub returns-in-None : goal.returns-in-None
returns-in-None c = audit_none c.args.s.now c.args.p c.in-None.is

use Rattle.std.proofs.Common.{rules, ◌∙◌, ◌≡◌, Err, true}
use Rattle.judge_items.proofs.OneLaws.{audit_judged, next_wrong, next_right}
use Rattle.judge_items.proofs.fn.audit_items.one.Goals as goal

pub returns-in_err-x : goal.returns-in_err-x
returns-in_err-x c =
    let r : c.from_residual.result ≡ Err c.in_err-x.field-0.0 = search rules in
    r
    ∙ next_wrong _ _ true c.audit_item.result c.in_err-x.field-0.0 (c.audit_item.ensures ∙ audit_judged c.captures.s.now c.args.i c.item_places-p.result c.item_places-p.ensures c.args.vs c.args.seen) c.in_err-x.was

pub returns : goal.returns
returns c = next_right _ _ true c.audit_item.result c.in_ok-x.x (c.audit_item.ensures ∙ audit_judged c.captures.s.now c.args.i c.item_places-p.result c.item_places-p.ensures c.args.vs c.args.seen) c.in_ok-x.was

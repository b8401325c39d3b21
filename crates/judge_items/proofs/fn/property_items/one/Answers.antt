use Rattle.std.proofs.Common.{rules, ◌∙◌, ◌≡◌, Err, refl, true}
use Rattle.judge_items.proofs.OneLaws.{property_judged, ended_wrong, ended_right, next_wrong, next_right}
use Rattle.judge_items.proofs.fn.property_items.one.Goals as goal

pub returns-in_err-values : goal.returns-in_err-values
returns-in_err-values c =
    let r : c.from_residual.result ≡ Err c.in_err-values.field-0.0 = search rules in
    r
    ∙ next_wrong _ _ true _ c.in_err-values.field-0.0 (ended_wrong _ c.property_item.result c.item_places-p.result.end c.in_err-values.field-0.0 c.property_item.ensures c.in_err-values.was
    ∙ property_judged c.captures.s.now c.args.i c.item_places-p.result c.item_places-p.ensures c.args.vs c.captures.k c.args.seen) refl

pub returns : goal.returns
returns c =
    next_right _ _ true _ _ (ended_right _ c.property_item.result c.item_places-p.result.end c.in_ok-values.values c.property_item.ensures c.in_ok-values.was
    ∙ property_judged c.captures.s.now c.args.i c.item_places-p.result c.item_places-p.ensures c.args.vs c.captures.k c.args.seen) refl

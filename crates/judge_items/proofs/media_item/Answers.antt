use Rattle.std.proofs.Common.{rules, ap, not, ◌&&◌, ◌∙◌, ◌≡◌, Err, false}
use Rattle.std.specs.Option.{is_none}
use Rattle.megaco.specs.Items.{both, property_items}
use Rattle.read_command.specs.Places.{items_at}
use Rattle.judge_items.specs.Judging.{item_checked, kind_of, media_shape_by, media_by}
use Rattle.judge_items.proofs.CallLaws.{checked_by, item_wrong, item_bare, item_right, or_none, or_some}
use Rattle.judge_items.proofs.media_item.Goals as goal

pub returns-in_err-check_item : goal.returns-in_err-check_item
unfolding media_by
returns-in_err-check_item c =
    let n : c.is_none.result ≡ is_none c.args.p.value = search rules in
    let e : c.check_item.result ≡ item_checked 444 (both c.args.called c.args.called) (both c.args.called c.args.stood) (media_shape_by c.args.called c.args.p) = checked_by c.check_item.result 444 c.both.result (both c.args.called c.args.called) c.both-2.result (both c.args.called c.args.stood) (not c.args.called.local && not c.args.called.remote && c.is_none.result) (media_shape_by c.args.called c.args.p) c.check_item.ensures c.both.ensures c.both-2.ensures (ap (λ t. not c.args.called.local && not c.args.called.remote && t) n) in
    let r : c.from_residual.result ≡ Err c.in_err-check_item.field-0.0 = search rules in
    r ∙ item_wrong c.check_item.result 444 (both c.args.called c.args.called) (both c.args.called c.args.stood) (media_shape_by c.args.called c.args.p) e c.args.s.now c.args.p.inside (λ i. property_items (kind_of c.args.called.control) (items_at 6 c.args.s.now i).tree false c.args.values) (λ i. (items_at 6 c.args.s.now i).end) c.args.p.end c.in_err-check_item.field-0.0 c.in_err-check_item.was

pub returns-in_err-inside : goal.returns-in_err-inside
unfolding media_by
returns-in_err-inside c =
    let n : c.is_none.result ≡ is_none c.args.p.value = search rules in
    let e : c.check_item.result ≡ item_checked 444 (both c.args.called c.args.called) (both c.args.called c.args.stood) (media_shape_by c.args.called c.args.p) = checked_by c.check_item.result 444 c.both.result (both c.args.called c.args.called) c.both-2.result (both c.args.called c.args.stood) (not c.args.called.local && not c.args.called.remote && c.is_none.result) (media_shape_by c.args.called c.args.p) c.check_item.ensures c.both.ensures c.both-2.ensures (ap (λ t. not c.args.called.local && not c.args.called.remote && t) n) in
    let r : c.from_residual-in_err-inside.result ≡ Err c.in_err-inside.field-0.0 = search rules in
    let n = or_none c.args.p.inside 442 c.in_err-inside.field-0.0 c.ok_or.result c.ok_or.ensures.value c.in_err-inside.was in
    r ∙ item_bare c.check_item.result 444 (both c.args.called c.args.called) (both c.args.called c.args.stood) (media_shape_by c.args.called c.args.p) e c.args.s.now c.args.p.inside (λ i. property_items (kind_of c.args.called.control) (items_at 6 c.args.s.now i).tree false c.args.values) (λ i. (items_at 6 c.args.s.now i).end) c.args.p.end c.in_ok-check_item.was n.0 c.in_err-inside.field-0.0 n.1

pub returns : goal.returns
unfolding media_by
returns c =
    let n : c.is_none.result ≡ is_none c.args.p.value = search rules in
    let e : c.check_item.result ≡ item_checked 444 (both c.args.called c.args.called) (both c.args.called c.args.stood) (media_shape_by c.args.called c.args.p) = checked_by c.check_item.result 444 c.both.result (both c.args.called c.args.called) c.both-2.result (both c.args.called c.args.stood) (not c.args.called.local && not c.args.called.remote && c.is_none.result) (media_shape_by c.args.called c.args.p) c.check_item.ensures c.both.ensures c.both-2.ensures (ap (λ t. not c.args.called.local && not c.args.called.remote && t) n) in
    item_right c.check_item.result 444 (both c.args.called c.args.called) (both c.args.called c.args.stood) (media_shape_by c.args.called c.args.p) e c.args.s.now c.args.p.inside (λ i. property_items (kind_of c.args.called.control) (items_at 6 c.args.s.now i).tree false c.args.values) (λ i. (items_at 6 c.args.s.now i).end) c.args.p.end c.in_ok-check_item.was c.in_ok-inside.inside (or_some c.args.p.inside 442 c.in_ok-inside.inside c.ok_or.result c.ok_or.ensures.value c.in_ok-inside.was)
    c.property_items.result c.closed.result (c.property_items.ensures ∙ rw c.kind_of.ensures) c.closed.ensures

use Rattle.std.proofs.Common.{rules, refl, ◌∙◌, ◌≡◌, Err}
use Rattle.std.specs.Option.{is_none}
use Rattle.protocol.specs.Types.{MediaToken}
use Rattle.megaco.specs.Items.{no_descriptors, media_items}
use Rattle.read_command.specs.Places.{media_at}
use Rattle.judge_items.specs.Judging.{called_by, item_checked, top_by}
use Rattle.judge_items.proofs.CallLaws.{checked_by, item_wrong, item_bare, item_right, or_none, or_some}
use Rattle.judge_items.proofs.top_item.Goals as goal

pub returns-in_err-check_item : goal.returns-in_err-check_item
unfolding top_by
returns-in_err-check_item c =
    let n : c.is_none.result ≡ is_none c.args.p.value = search rules in
    let e : c.check_item.result ≡ item_checked 444 (called_by MediaToken c.args.s.now c.args.p) c.args.seen (is_none c.args.p.value) = checked_by c.check_item.result 444 c.item_called-known.result (called_by MediaToken c.args.s.now c.args.p) c.args.seen c.args.seen c.is_none.result (is_none c.args.p.value) c.check_item.ensures c.item_called-known.ensures refl n in
    let r : c.from_residual.result ≡ Err c.in_err-check_item.field-0.0 = search rules in
    r ∙ item_wrong c.check_item.result 444 (called_by MediaToken c.args.s.now c.args.p) c.args.seen (is_none c.args.p.value) e c.args.s.now c.args.p.inside (λ i. media_items (media_at c.args.s.now i).tree no_descriptors c.args.values) (λ i. (media_at c.args.s.now i).end) c.args.p.end c.in_err-check_item.field-0.0 c.in_err-check_item.was

pub returns-in_err-inside : goal.returns-in_err-inside
unfolding top_by
returns-in_err-inside c =
    let n : c.is_none.result ≡ is_none c.args.p.value = search rules in
    let e : c.check_item.result ≡ item_checked 444 (called_by MediaToken c.args.s.now c.args.p) c.args.seen (is_none c.args.p.value) = checked_by c.check_item.result 444 c.item_called-known.result (called_by MediaToken c.args.s.now c.args.p) c.args.seen c.args.seen c.is_none.result (is_none c.args.p.value) c.check_item.ensures c.item_called-known.ensures refl n in
    let r : c.from_residual-in_err-inside.result ≡ Err c.in_err-inside.field-0.0 = search rules in
    let n = or_none c.args.p.inside 442 c.in_err-inside.field-0.0 c.ok_or.result c.ok_or.ensures.value c.in_err-inside.was in
    r ∙ item_bare c.check_item.result 444 (called_by MediaToken c.args.s.now c.args.p) c.args.seen (is_none c.args.p.value) e c.args.s.now c.args.p.inside (λ i. media_items (media_at c.args.s.now i).tree no_descriptors c.args.values) (λ i. (media_at c.args.s.now i).end) c.args.p.end c.in_ok-check_item.was n.0 c.in_err-inside.field-0.0 n.1

pub returns : goal.returns
unfolding top_by
returns c =
    let n : c.is_none.result ≡ is_none c.args.p.value = search rules in
    let e : c.check_item.result ≡ item_checked 444 (called_by MediaToken c.args.s.now c.args.p) c.args.seen (is_none c.args.p.value) = checked_by c.check_item.result 444 c.item_called-known.result (called_by MediaToken c.args.s.now c.args.p) c.args.seen c.args.seen c.is_none.result (is_none c.args.p.value) c.check_item.ensures c.item_called-known.ensures refl n in
    item_right c.check_item.result 444 (called_by MediaToken c.args.s.now c.args.p) c.args.seen (is_none c.args.p.value) e c.args.s.now c.args.p.inside (λ i. media_items (media_at c.args.s.now i).tree no_descriptors c.args.values) (λ i. (media_at c.args.s.now i).end) c.args.p.end c.in_ok-check_item.was c.in_ok-inside.inside (or_some c.args.p.inside 442 c.in_ok-inside.inside c.ok_or.result c.ok_or.ensures.value c.in_ok-inside.was)
    c.media_items.result c.closed.result (c.media_items.ensures) c.closed.ensures

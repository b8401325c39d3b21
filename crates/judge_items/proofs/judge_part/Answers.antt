use Rattle.std.proofs.Common.{rules, ◌∙◌, ◌≡◌, Err}
use Rattle.base.specs.Lists.{part}
use Rattle.judge_items.proofs.OneLaws.{word_means, part_text, part_judged, part_stood, next_wrong, next_right}
use Rattle.judge_items.proofs.judge_part.Goals as goal

pub text_here-requires : goal.text_here-requires
unfolding part
text_here-requires c = word_means c.args.s.now c.args.at c.item_places-p.result c.item_places-p.ensures c.word_called-spelt.result c.word_called-spelt.ensures

pub returns-then-text_here : goal.returns-then-text_here
returns-then-text_here c = part_text c.args.s.now c.args.at c.text_here.result c.text_here.ensures c.args.stood c.args.values c.judge_speech.result c.if-text_here.true c.judge_speech.ensures

pub returns-in_err-x : goal.returns-in_err-x
unfolding part
returns-in_err-x c =
    let r : c.from_residual.result ≡ Err c.in_err-x.field-0.0 = search rules in
    r
    ∙ next_wrong _ _ _ c.media_item.result c.in_err-x.field-0.0 (c.media_item.ensures
    ∙ part_judged c.args.s.now c.args.at c.item_places-p.result c.item_places-p.ensures c.word_called-spelt.result c.word_called-spelt.ensures c.text_here.result c.text_here.ensures c.if-text_here.false c.unless-called.result c.args.stood c.unless-called.ensures c.args.values) c.in_err-x.was

pub returns : goal.returns
unfolding part
returns c =
    rw (← part_stood c.args.s.now c.args.at c.item_places-p.result c.item_places-p.ensures c.word_called-spelt.result c.word_called-spelt.ensures c.text_here.result c.text_here.ensures c.if-text_here.false c.unless-called.result c.args.stood c.unless-called.ensures c.args.values, c.either.ensures)
    (next_right _ _ _ c.media_item.result c.in_ok-x.x (c.media_item.ensures
    ∙ part_judged c.args.s.now c.args.at c.item_places-p.result c.item_places-p.ensures c.word_called-spelt.result c.word_called-spelt.ensures c.text_here.result c.text_here.ensures c.if-text_here.false c.unless-called.result c.args.stood c.unless-called.ensures c.args.values) c.in_ok-x.was)

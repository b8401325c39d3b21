use Rattle.std.proofs.Common.{rules, ◌∙◌, ◌≡◌, refl, Err}
use Rattle.base.specs.Lists.{part}
use Rattle.judge_items.proofs.OneLaws.{speech_judged, speech_stood, ended_wrong, ended_right, next_wrong, next_right}
use Rattle.command_places.proofs.PlaceLaws.{text_within}
use Rattle.judge_items.proofs.judge_speech.Goals as goal

pub text_of-requires : goal.text_of-requires
text_of-requires c = search text_within

pub returns-in_err-values : goal.returns-in_err-values
unfolding part
returns-in_err-values c =
    let r : c.from_residual.result ≡ Err c.in_err-values.field-0.0 = search rules in
    let j = speech_judged c.args.s.now c.args.at c.speech_places-p.result c.speech_places-p.ensures c.word_called-called.result c.args.stood c.word_called-called.ensures c.args.values c.text_of.result.now c.text_of.ensures.result_value in
    r ∙ next_wrong _ _ _ _ c.in_err-values.field-0.0 (ended_wrong _ c.speech_item.result c.speech_places-p.result.end c.in_err-values.field-0.0 c.speech_item.ensures c.in_err-values.was ∙ j) refl

pub returns : goal.returns
unfolding part
returns c =
    let j = speech_judged c.args.s.now c.args.at c.speech_places-p.result c.speech_places-p.ensures c.word_called-called.result c.args.stood c.word_called-called.ensures c.args.values c.text_of.result.now c.text_of.ensures.result_value in
    rw (← speech_stood c.args.s.now c.args.at c.speech_places-p.result c.speech_places-p.ensures c.word_called-called.result c.args.stood c.word_called-called.ensures c.args.values, c.either.ensures)
    (next_right _ _ _ _ _ (ended_right _ c.speech_item.result c.speech_places-p.result.end c.in_ok-values.values c.speech_item.ensures c.in_ok-values.was ∙ j) refl)

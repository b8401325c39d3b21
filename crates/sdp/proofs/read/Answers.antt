use Rattle.std.proofs.Common.{rules, tests, ◌≡◌, ◌∙◌, sym, ap}
use Rattle.std.specs.List.{fold, slice_split}
use Rattle.std.proofs.lemmas.Iterator.Splits.{YieldsList-from_slice_split}
use Rattle.std.proofs.lemmas.Iterator.Consumers.{fold_from_yields_List}
use Rattle.base.specs.Pick.{pick}
use Rattle.megaco.specs.Bytes.{is_line_end}
use Rattle.megaco.specs.Sdp.{read_sdp, sdp_line_of, sdp_step, sdp_finish}
use Rattle.protocol.specs.Types.{NoLine}
use Rattle.sdp.proofs.SdpLaws.{read_lines}
use Rattle.sdp.proofs.read.Goals as goal

pub returns-then-is_empty : goal.returns-then-is_empty
unfolding read_sdp pick
returns-then-is_empty c = rw (← c.is_empty.ensures, c.if-is_empty.true)

pub returns : goal.returns
unfolding read_sdp pick
returns c =
    let x : c.fold.result ≡ fold (λ y l. sdp_step y (sdp_line_of l)) NoLine (slice_split is_line_end c.args.s.now) = fold_from_yields_List _ (λ y l. sdp_step y (sdp_line_of l)) NoLine c.fold.result c.fold.ensures.ran
    (YieldsList-from_slice_split _ is_line_end c.args.s.now c.split.ensures.rest c.split.ensures.done c.split.ensures.closure (λ x r q k. search (rules, tests))) (λ a l b q k. search rules) in
    c.finish.ensures ∙ ap sdp_finish (read_lines c.args.s.now c.fold.result x) ∙ sym (rw (← c.is_empty.ensures, c.if-is_empty.false))

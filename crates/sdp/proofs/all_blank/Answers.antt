use Rattle.std.proofs.Common.{rules, tests, ◌∙◌}
use Rattle.std.proofs.lemmas.Iterator.{YieldsList-from_slice}
use Rattle.std.proofs.lemmas.Iterator.Search.{all_from_yields_List}
use Rattle.megaco.specs.Sdp.{is_blank}
use Rattle.sdp.proofs.SdpLaws.{all_every}
use Rattle.sdp.proofs.all_blank.Goals as goal

pub returns : goal.returns
returns c = all_from_yields_List is_blank _ _ _ c.all.ensures.ran (YieldsList-from_slice c.args.l.now cc) (λ x b q k. search (rules, tests)) ∙ all_every is_blank c.args.l.now

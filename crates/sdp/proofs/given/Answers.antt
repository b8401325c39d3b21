use Rattle.std.proofs.Common.{arith, ◌≡◌, ◌∙◌, ap, drop}
use Rattle.std.proofs.lemmas.Grind.{common_steps}
use Rattle.megaco.specs.Sdp.{begins, given_at}
use Rattle.sdp.proofs.SdpLaws.{starts_begins}
use Rattle.sdp.proofs.given.Goals as goal

pub returns : goal.returns
unfolding given_at
returns c =
    let d : c.unwrap_or.result.now ≡ drop c.args.at c.args.s.now = grind (arith, common_steps) in
    c.starts_with.ensures.value ∙ starts_begins c.args.form.now c.unwrap_or.result.now ∙ ap (begins c.args.form.now) d

use Rattle.base.proofs.OutLaws.{three}
use Rattle.megaco.specs.Reply.{tried_text}
use Rattle.report.proofs.put_named.Goals as goal

pub returns : goal.returns
returns c = unfold tried_text in search three

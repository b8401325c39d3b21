use Rattle.megaco.specs.Reply.{tried_text}
use Rattle.base.proofs.OutLaws.{three}
use Rattle.report.proofs.put_tried.Goals as goal

pub returns : goal.returns
returns c = unfold tried_text in search three

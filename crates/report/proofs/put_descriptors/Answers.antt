use Rattle.megaco.specs.Reply.{descriptors}
use Rattle.base.proofs.OutLaws.{three}
use Rattle.report.proofs.put_descriptors.Goals as goal

pub returns : goal.returns
returns c = unfold descriptors in search three

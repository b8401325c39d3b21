use Rattle.megaco.specs.Reply.{local_control}
use Rattle.base.proofs.OutLaws.{three}
use Rattle.report.proofs.put_local_control.Goals as goal

pub returns : goal.returns
returns c = unfold local_control in search three

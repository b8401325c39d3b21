use Rattle.base.proofs.OutLaws.{three}
use Rattle.megaco.specs.Reply.{error_text}
use Rattle.report.proofs.put_error.Goals as goal

pub returns : goal.returns
unfolding error_text
returns c = search three

use Rattle.megaco.specs.Reply.{service_states}
use Rattle.base.proofs.OutLaws.{three}
use Rattle.report.proofs.put_service_states.Goals as goal

pub returns : goal.returns
returns c = unfold service_states in search three

use Rattle.megaco.specs.Reply.{figures}
use Rattle.base.proofs.OutLaws.{three}
use Rattle.report.proofs.put_figures.Goals as goal

pub returns : goal.returns
returns c = unfold figures in search three

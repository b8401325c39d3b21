use Rattle.base.proofs.OutLaws.{after}
use Rattle.megaco.specs.Reply.{jitter_text}
use Rattle.report.proofs.put_jitter.Goals as goal

pub returns : goal.returns
unfolding jitter_text
returns c = search after

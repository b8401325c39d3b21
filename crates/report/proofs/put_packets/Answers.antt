use Rattle.base.proofs.OutLaws.{after}
use Rattle.megaco.specs.Reply.{packets_text}
use Rattle.report.proofs.put_packets.Goals as goal

pub returns : goal.returns
unfolding packets_text
returns c = search after

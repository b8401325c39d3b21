use Rattle.megaco.specs.Reply.{header_text}
use Rattle.base.proofs.OutLaws.{three}
use Rattle.reply.proofs.put_header.Goals as goal

pub returns : goal.returns
returns c = unfold header_text in search three

use Rattle.reply.specs.Texts.{reply_open}
use Rattle.base.proofs.OutLaws.{three}
use Rattle.reply.proofs.put_reply_open.Goals as goal

pub returns : goal.returns
returns c = unfold reply_open in search three

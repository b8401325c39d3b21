use Rattle.reply.specs.Texts.{action_open}
use Rattle.base.proofs.OutLaws.{three}
use Rattle.reply.proofs.put_action_open.Goals as goal

pub returns : goal.returns
returns c = unfold action_open in search three

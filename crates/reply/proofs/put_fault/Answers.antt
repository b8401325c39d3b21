use Rattle.std.proofs.Common.{rules}
use Rattle.reply.proofs.ReplyLaws.{fault_is}
use Rattle.reply.proofs.put_fault.Goals as goal

pub returns : goal.returns
returns c = search (fault_is, rules)

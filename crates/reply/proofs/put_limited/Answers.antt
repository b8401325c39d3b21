use Rattle.std.proofs.Common.{rules}
use Rattle.reply.proofs.ReplyLaws.{limited_long}
use Rattle.reply.proofs.ReplyLaws.{limited_short}
use Rattle.reply.proofs.put_limited.Goals as goal

pub returns-then-n-lt-TRANSACTION_ROOM : goal.returns-then-n-lt-TRANSACTION_ROOM
returns-then-n-lt-TRANSACTION_ROOM c = search (limited_long, limited_short, rules)

pub returns : goal.returns
returns c = search (limited_long, limited_short, rules)

use Rattle.std.proofs.Common.{rules}
use Rattle.room.proofs.KeepLaws.{long_row, line_more, line_full}
use Rattle.room.proofs.line.Goals as goal

pub returns-then-k-lt16 : goal.returns-then-k-lt16
returns-then-k-lt16 c = search (rules, line_more)

pub returns-else-k-lt16 : goal.returns-else-k-lt16
returns-else-k-lt16 c = search (rules, line_full)

pub shift-requires : goal.shift-requires
shift-requires c = search (rules, long_row)

use Rattle.std.proofs.Common.{rules}
use Rattle.table.proofs.TableLaws.{count_is}
use Rattle.table.proofs.count_in.Goals as goal

pub returns : goal.returns
returns c = search (rules, count_is)

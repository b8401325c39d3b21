use Rattle.std.proofs.Common.{rules}
use Rattle.table.proofs.TableLaws.{absent_is}
use Rattle.table.proofs.lowest_absent.Goals as goal

pub returns : goal.returns
returns c = absent_is _ c.first_zero.result _ c.first_zero.ensures (search rules)

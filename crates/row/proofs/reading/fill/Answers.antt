use Rattle.std.proofs.Common.{rules}
use Rattle.row.proofs.ReadLaws.{fill_on, fill_unfit, fill_end}
use Rattle.row.proofs.reading.fill.Goals as goal

pub returns-in_default : goal.returns-in_default
returns-in_default c = search fill_unfit

pub loop-j-preserved : goal.loop-j-preserved
loop-j-preserved c = record { long = search rules; same = search fill_on }

pub returns : goal.returns
returns c = search fill_end

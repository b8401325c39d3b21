use Rattle.row.proofs.PutLaws.{leads_on, leads_end}
use Rattle.row.proofs.writing.put_items.Goals as goal

pub loop-j-preserved : goal.loop-j-preserved
loop-j-preserved c = search leads_on

pub returns : goal.returns
returns c = search leads_end

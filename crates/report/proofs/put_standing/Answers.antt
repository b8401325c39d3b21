use Rattle.report.proofs.ReportLaws.{standing_is}
use Rattle.report.proofs.put_standing.Goals as goal

pub returns : goal.returns
returns c = search standing_is

use Rattle.report.proofs.ReportLaws.{report_is}
use Rattle.run_action.proofs.put_alone.Goals as goal

pub returns : goal.returns
returns c = search report_is

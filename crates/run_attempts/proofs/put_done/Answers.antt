use Rattle.report.proofs.ReportLaws.{detail_is}
use Rattle.run_attempts.proofs.put_done.Goals as goal

pub returns : goal.returns
returns c = search detail_is

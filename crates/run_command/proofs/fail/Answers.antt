use Rattle.std.proofs.Common.{refl}
use Rattle.report.proofs.ReportLaws.{report_is}
use Rattle.run_command.proofs.fail.Goals as goal

pub returns : goal.returns
returns c = record { text = search report_is; place = refl; going = refl }

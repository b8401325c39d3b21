use Rattle.std.proofs.Common.{refl}
use Rattle.report.proofs.ReportLaws.{refused_is}
use Rattle.run_attempts.proofs.command_error.Goals as goal

pub returns : goal.returns
returns c = record { text = search refused_is; place = refl; going = refl }

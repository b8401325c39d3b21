use Rattle.base.proofs.OutLaws.{chosen_yes, chosen_no, none}
use Rattle.report.specs.Rows.{emergency_text}
use Rattle.report.proofs.ReportLaws.{calm, urgent}
use Rattle.report.proofs.put_emergency.Goals as goal

pub returns-then-held-lt17 : goal.returns-then-held-lt17
unfolding emergency_text
returns-then-held-lt17 c = search (chosen_yes, none, calm)

pub returns : goal.returns
unfolding emergency_text
returns c = search (chosen_no, urgent)

use Rattle.base.proofs.OutLaws.{of_case}
use Rattle.megaco.specs.Reply.{op_text}
use Rattle.report.proofs.put_op.Goals as goal

pub returns-in-Add : goal.returns-in-Add
unfolding op_text
returns-in-Add c = search (of_case op_text)

pub returns-in-Modify : goal.returns-in-Modify
unfolding op_text
returns-in-Modify c = search (of_case op_text)

pub returns-in-Subtract : goal.returns-in-Subtract
unfolding op_text
returns-in-Subtract c = search (of_case op_text)

pub returns-in-Move : goal.returns-in-Move
unfolding op_text
returns-in-Move c = search (of_case op_text)

pub returns-in-AuditValue : goal.returns-in-AuditValue
unfolding op_text
returns-in-AuditValue c = search (of_case op_text)

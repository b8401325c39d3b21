use Rattle.command_tests.proofs.TestLaws.{op_of_token}
use Rattle.command_tests.proofs.op_of.Goals as goal

pub returns : goal.returns
returns c = op_of_token _ _ _ c.if-wild.false c.meaning_of.ensures _ _ c.in_ok-meaning_of.was c.op_by.ensures

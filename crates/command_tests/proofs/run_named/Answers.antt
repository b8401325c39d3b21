use Rattle.command_tests.proofs.TestLaws.{named_targets}
use Rattle.command_tests.proofs.run_named.Goals as goal

pub returns : goal.returns
returns c = search named_targets

use Rattle.std.proofs.Common.{rules}
use Rattle.run_command.proofs.CommandLaws.{built_421, built_on}
use Rattle.run_command.proofs.run_built.Goals as goal

pub returns-then-forbidden_in_null : goal.returns-then-forbidden_in_null
returns-then-forbidden_in_null c = (search built_421, search rules)

pub returns : goal.returns
returns c = (search built_on, search rules)

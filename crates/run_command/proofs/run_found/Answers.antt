use Rattle.std.proofs.Common.{rules}
use Rattle.run_command.proofs.CommandLaws.{found_built, found_unbuilt}
use Rattle.run_command.proofs.run_found.Goals as goal

pub returns-in-Some : goal.returns-in-Some
returns-in-Some c = (search found_built, search rules)

pub returns-in-None : goal.returns-in-None
returns-in-None c = (search found_unbuilt, search rules)

use Rattle.command_places.proofs.PlaceLaws.{command_ends}
use Rattle.run_command.proofs.CommandLaws.{command_runs}
use Rattle.run_command.proofs.run_command.Goals as goal

pub returns : goal.returns
returns c = (search command_runs, search command_ends)

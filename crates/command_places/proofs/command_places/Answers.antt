use Rattle.command_places.proofs.PlaceLaws.{command_found}
use Rattle.command_places.proofs.command_places.Goals as goal

pub returns : goal.returns
returns c = search command_found

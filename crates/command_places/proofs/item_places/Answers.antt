use Rattle.command_places.proofs.PlaceLaws.{item_found}
use Rattle.command_places.proofs.item_places.Goals as goal

pub returns : goal.returns
returns c = search item_found

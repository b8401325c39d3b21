use Rattle.action_places.proofs.ActionPlaceLaws.{triple_found}
use Rattle.action_places.proofs.triple_places.Goals as goal

pub returns : goal.returns
returns c = search triple_found

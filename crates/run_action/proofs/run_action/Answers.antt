use Rattle.std.proofs.Common.{refl}
use Rattle.action_places.proofs.ActionPlaceLaws.{action_ends}
use Rattle.run_action.proofs.ActsLaws.{action_acts}
use Rattle.run_action.proofs.run_action.Goals as goal

pub returns : goal.returns
returns c = (action_acts _ _ _ _ _ _ _ _ _ _ _ _ _ _ _ c.action_places-a.ensures c.rest_of-rest.ensures refl c.run_inner-x.ensures.0 c.put_action.ensures c.requires.1, search action_ends)

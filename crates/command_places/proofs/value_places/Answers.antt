use Rattle.command_places.proofs.PlaceLaws.{value_given_lem, value_none}
use Rattle.command_places.proofs.value_places.Goals as goal

pub returns-then-is_at : goal.returns-then-is_at
returns-then-is_at c = search value_given_lem

pub returns : goal.returns
returns c = search value_none

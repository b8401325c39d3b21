use Rattle.command_places.proofs.PlaceLaws.{speech_found}
use Rattle.command_places.proofs.speech_places.Goals as goal

pub returns : goal.returns
returns c = search speech_found

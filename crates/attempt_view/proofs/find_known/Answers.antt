use Rattle.attempt_view.proofs.ViewLaws.{found_known}
use Rattle.attempt_view.proofs.find_known.Goals as goal

pub returns : goal.returns
returns c = search found_known

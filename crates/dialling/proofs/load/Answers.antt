use Rattle.dialling.proofs.DialLaws.{load_good, load_refused}
use Rattle.dialling.proofs.load.Goals as goal

pub returns-in_default : goal.returns-in_default
returns-in_default c = search load_refused

pub returns : goal.returns
returns c = search load_good

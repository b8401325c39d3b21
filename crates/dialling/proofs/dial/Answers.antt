use Rattle.dialling.proofs.DialLaws.{dial_map, dial_string, dial_answer}
use Rattle.dialling.proofs.dial.Goals as goal

pub returns-in_default : goal.returns-in_default
returns-in_default c = search dial_map

pub returns-then-not-is_dialled : goal.returns-then-not-is_dialled
returns-then-not-is_dialled c = search dial_string

pub returns : goal.returns
returns c = search dial_answer

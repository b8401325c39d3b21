use Rattle.map_text.proofs.PartLaws.{position_symbol, position_x, position_set}
use Rattle.map_text.proofs.position.Goals as goal

pub returns-then-c-lt21 : goal.returns-then-c-lt21
returns-then-c-lt21 c = search position_symbol

pub returns-then-is_x : goal.returns-then-is_x
returns-then-is_x c = search position_x

pub returns : goal.returns
returns c = search position_set

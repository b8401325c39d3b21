use Rattle.square.proofs.SquareLaws.{bit_pick}
use Rattle.square.proofs.shifted.Goals as goal

pub returns : goal.returns
returns c = search bit_pick

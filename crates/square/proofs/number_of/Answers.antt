use Rattle.std.proofs.Common.{rules}
use Rattle.square.proofs.SquareLaws.{number_on, number_grows}
use Rattle.square.proofs.number_of.Goals as goal

pub loop-j-preserved : goal.loop-j-preserved
loop-j-preserved c = (search (rules, number_on), search (rules, number_grows))

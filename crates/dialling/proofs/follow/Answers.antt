use Rattle.dialling.proofs.LiveLaws.{follow_room, symbol_small, follow_on, follow_end}
use Rattle.dialling.proofs.follow.Goals as goal

pub step-requires : goal.step-requires
step-requires c = (search follow_room, search symbol_small)

pub loop-b-preserved : goal.loop-b-preserved
loop-b-preserved c = search follow_on

pub returns : goal.returns
returns c = search follow_end

use Rattle.std.proofs.Common.{rules, refl}
use Rattle.sessions.proofs.TakenLaws.{reads_none, reads_on, reads_ended}
use Rattle.listing.proofs.take_input.Goals as goal

pub loop-init : goal.loop-init
loop-init g c = (refl, rw c.requires.none_held (reads_none _ _))

pub loop-preserved : goal.loop-preserved
loop-preserved g c = (search rules, search reads_on)

pub returns-then-not-take_some : goal.returns-then-not-take_some
returns-then-not-take_some g c = search reads_ended

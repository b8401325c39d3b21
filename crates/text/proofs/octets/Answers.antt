use Rattle.std.proofs.Common.{arith, ◌<◌, length}
use Rattle.text.proofs.OctetLaws.{closed}
use Rattle.text.proofs.octets.Goals as goal

pub returns-then-closes : goal.returns-then-closes
returns-then-closes c = closed c.args.s.now c.loop-i.i c.loop-i.escaped _ c.loop-i.invariant c.closes.result (omega arith) c.if-b-eq0.false c.closes.ensures c.if-closes.true

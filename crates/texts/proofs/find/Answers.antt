use Rattle.texts.specs.Texts.{message_sought}
use Rattle.texts.proofs.SeekLaws.{find_none, find_here, find_end, find_more}
use Rattle.texts.proofs.find.Goals as goal

pub loop-n-init : goal.loop-n-init
unfolding message_sought
loop-n-init c = rw c.header_end-i.ensures

pub returns-in-Break : goal.returns-in-Break
returns-in-Break c = find_here c.args.s.now c.loop-n.n c.loop-n.i c.loop-n.left _ c.loop-n.invariant c.loop-n-test.true c.served.result c.served.ensures c.in-Break.x c.in-Break.is

pub returns-then-s-i : goal.returns-then-s-i
returns-then-s-i c = find_end c.args.s.now c.loop-n.n c.loop-n.i c.loop-n.left _ c.loop-n.invariant c.loop-n-test.true c.served.result c.served.ensures c.in-Continue.b c.in-Continue.is c.if-s-i.true

pub loop-n-preserved : goal.loop-n-preserved
loop-n-preserved c = find_more c.args.s.now c.loop-n.n c.loop-n.i c.loop-n.left _ c.loop-n.invariant c.loop-n-test.true c.served.result c.served.ensures c.in-Continue.b c.in-Continue.is c.if-s-i.false

pub returns : goal.returns
returns c = find_none c.args.s.now c.loop-n.n c.loop-n.i c.loop-n.left _ c.loop-n.invariant c.loop-n-test.false

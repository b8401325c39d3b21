use Rattle.std.proofs.Common.{arith, length, ◌≤◌, ◌<◌}
use Rattle.topology.proofs.LoopLaws.{setting, unset_none, unset_last, set_more}
use Rattle.topology.proofs.set_triples.Goals as goal

pub loop-n-init : goal.loop-n-init
loop-n-init c = setting c.args.s.now c.args.table.now c.args.at c.args.c c.args.was

pub returns-in-None : goal.returns-in-None
returns-in-None c =
    let t : c.loop-n.n ≤ length c.args.s.now = omega arith in
    unset_last c.args.s.now c.args.table.now c.args.at c.args.c c.loop-n.n c.loop-n.i c.args.was c.loop-n.q c.loop-n.invariant t c.look_up-x.result c.look_up-x.ensures c.set_link-r.result c.set_link-r.ensures c.next_part.result c.next_part.ensures c.in-None.is

pub loop-n-preserved : goal.loop-n-preserved
loop-n-preserved c =
    let t : c.loop-n.n ≤ length c.args.s.now = omega arith in
    set_more c.args.s.now c.args.table.now c.args.at c.args.c c.loop-n.n c.loop-n.i c.args.was c.loop-n.q c.loop-n.invariant t c.look_up-x.result c.look_up-x.ensures c.set_link-r.result c.set_link-r.ensures c.next_part.result c.next_part.ensures c.in-Some.u c.in-Some.is

pub returns : goal.returns
returns c =
    let t : length c.args.s.now < c.loop-n.n = omega arith in
    unset_none c.args.s.now c.args.table.now c.args.at c.args.c c.loop-n.n c.loop-n.i c.args.was c.loop-n.q c.loop-n.invariant t

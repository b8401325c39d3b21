use Rattle.std.proofs.Common.{arith, length, ◌≤◌, ◌<◌}
use Rattle.start_action.proofs.StartLaws.{seek_start, seek_none, seek_end, seek_found, seek_last, seek_more}
use Rattle.start_action.proofs.has_topology.Goals as goal

pub loop-n-init : goal.loop-n-init
loop-n-init c = seek_start c.args.s.now c.args.at

pub returns-then-not-property_here : goal.returns-then-not-property_here
returns-then-not-property_here c =
    let t : c.loop-n.n ≤ length c.args.s.now = omega arith in
    seek_end c.args.s.now c.loop-n.n c.loop-n.i _ c.loop-n.invariant t c.property_here.result c.property_here.ensures c.if-not-property_here.true

pub returns-then-is_topology : goal.returns-then-is_topology
returns-then-is_topology c =
    let t : c.loop-n.n ≤ length c.args.s.now = omega arith in
    seek_found c.args.s.now c.loop-n.n c.loop-n.i _ c.loop-n.invariant t c.property_here.result c.property_here.ensures c.if-not-property_here.false c.property_places-p.result c.property_places-p.ensures c.is_topology.result c.is_topology.ensures c.if-is_topology.true

pub returns-in-None : goal.returns-in-None
returns-in-None c =
    let t : c.loop-n.n ≤ length c.args.s.now = omega arith in
    seek_last c.args.s.now c.loop-n.n c.loop-n.i _ c.loop-n.invariant t c.property_here.result c.property_here.ensures c.if-not-property_here.false c.property_places-p.result c.property_places-p.ensures c.is_topology.result c.is_topology.ensures c.if-is_topology.false c.next_part.result c.next_part.ensures c.in-None.is

pub loop-n-preserved : goal.loop-n-preserved
loop-n-preserved c =
    let t : c.loop-n.n ≤ length c.args.s.now = omega arith in
    seek_more c.args.s.now c.loop-n.n c.loop-n.i _ c.loop-n.invariant t c.property_here.result c.property_here.ensures c.if-not-property_here.false c.property_places-p.result c.property_places-p.ensures c.is_topology.result c.is_topology.ensures c.if-is_topology.false c.next_part.result c.next_part.ensures c.in-Some.u c.in-Some.is

pub returns : goal.returns
returns c =
    let t : length c.args.s.now < c.loop-n.n = omega arith in
    seek_none c.args.s.now c.loop-n.n c.loop-n.i _ c.loop-n.invariant t

use Rattle.std.proofs.Common.{arith, rules, length, ◌≤◌, ◌<◌}
use Rattle.topology.proofs.LoopLaws.{setting_all, set_all_none, set_all_end, set_all_last, set_all_more, kind_is}
use Rattle.topology.proofs.set_topology.Goals as goal

pub loop-n-init : goal.loop-n-init
loop-n-init c = setting_all c.args.s.now c.args.table.now c.args.at c.args.c c.args.was

pub returns-then-not-property_here : goal.returns-then-not-property_here
returns-then-not-property_here c =
    let t : c.loop-n.n ≤ length c.args.s.now = omega arith in
    set_all_end c.args.s.now c.args.table.now c.args.at c.args.c c.loop-n.n c.loop-n.i c.args.was c.loop-n.q c.loop-n.invariant t c.property_here.result c.property_here.ensures c.if-not-property_here.true

pub set_property-r-requires : goal.set_property-r-requires
set_property-r-requires c = (search rules, search kind_is)

pub returns-in-None : goal.returns-in-None
returns-in-None c =
    let t : c.loop-n.n ≤ length c.args.s.now = omega arith in
    set_all_last c.args.s.now c.args.table.now c.args.at c.args.c c.loop-n.n c.loop-n.i c.args.was c.loop-n.q c.loop-n.invariant t c.property_here.result c.property_here.ensures c.if-not-property_here.false c.set_property-r.result c.set_property-r.ensures c.property_places-p.result c.property_places-p.ensures c.next_part.result c.next_part.ensures c.in-None.is

pub loop-n-preserved : goal.loop-n-preserved
loop-n-preserved c =
    let t : c.loop-n.n ≤ length c.args.s.now = omega arith in
    set_all_more c.args.s.now c.args.table.now c.args.at c.args.c c.loop-n.n c.loop-n.i c.args.was c.loop-n.q c.loop-n.invariant t c.property_here.result c.property_here.ensures c.if-not-property_here.false c.set_property-r.result c.set_property-r.ensures c.property_places-p.result c.property_places-p.ensures c.next_part.result c.next_part.ensures c.in-Some.u c.in-Some.is

pub returns : goal.returns
returns c =
    let t : length c.args.s.now < c.loop-n.n = omega arith in
    set_all_none c.args.s.now c.args.table.now c.args.at c.args.c c.loop-n.n c.loop-n.i c.args.was c.loop-n.q c.loop-n.invariant t

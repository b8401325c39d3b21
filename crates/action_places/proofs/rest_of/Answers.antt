use Rattle.std.proofs.Common.{arith, length, ◌≤◌, ◌<◌}
use Rattle.action_places.proofs.ActionPlaceLaws.{rest_start, rest_none, rest_commands, rest_last, rest_more}
use Rattle.action_places.proofs.rest_of.Goals as goal

pub loop-n-init : goal.loop-n-init
loop-n-init c = rest_start c.args.s.now c.args.at

pub returns-then-not-property_here : goal.returns-then-not-property_here
returns-then-not-property_here c =
    let t : c.loop-n.n ≤ length c.args.s.now = omega arith in
    rest_commands c.args.s.now c.loop-n.n c.loop-n.i _ c.loop-n.invariant t c.property_here.result c.property_here.ensures c.if-not-property_here.true

pub returns-in-None : goal.returns-in-None
returns-in-None c =
    let t : c.loop-n.n ≤ length c.args.s.now = omega arith in
    rest_last c.args.s.now c.loop-n.n c.loop-n.i _ c.loop-n.invariant t c.property_here.result c.property_here.ensures c.if-not-property_here.false c.property_places-end.result c.property_places-end.ensures c.next_part.result c.next_part.ensures c.in-None.is

pub loop-n-preserved : goal.loop-n-preserved
loop-n-preserved c =
    let t : c.loop-n.n ≤ length c.args.s.now = omega arith in
    rest_more c.args.s.now c.loop-n.n c.loop-n.i _ c.loop-n.invariant t c.property_here.result c.property_here.ensures c.if-not-property_here.false c.property_places-end.result c.property_places-end.ensures c.next_part.result c.next_part.ensures c.in-Some.u c.in-Some.is

pub returns : goal.returns
returns c =
    let t : length c.args.s.now < c.loop-n.n = omega arith in
    rest_none c.args.s.now c.loop-n.n c.loop-n.i _ c.loop-n.invariant t

use Rattle.std.proofs.Common.{arith, rules, length, ◌≤◌, ◌<◌}
use Rattle.start_action.proofs.StartLaws.{read_start, read_none, read_end, read_over, read_last, read_more}
use Rattle.start_action.proofs.read_properties.Goals as goal

pub loop-n-init : goal.loop-n-init
loop-n-init c = (read_start c.args.s.now c.args.at c.args.held, omega arith, search rules)

pub returns-then-is_over : goal.returns-then-is_over
returns-then-is_over c =
    let t : c.loop-n.n ≤ length c.args.s.now = omega arith in
    read_over c.args.s.now c.args.at c.args.held c.loop-n.n c.loop-n.i c.loop-n.a c.loop-n.b c.loop-n.invariant.0 t c.property_here.result c.property_here.ensures c.if-not-property_here.false c.property_places-p.result c.property_places-p.ensures c.is_over.result c.is_over.ensures c.if-is_over.true

pub loop-n-preserved : goal.loop-n-preserved
loop-n-preserved c =
    let t : c.loop-n.n ≤ length c.args.s.now = omega arith in
    (read_more c.args.s.now c.args.at c.args.held c.loop-n.n c.loop-n.i c.loop-n.a c.loop-n.b c.loop-n.invariant.0 t c.property_here.result c.property_here.ensures c.if-not-property_here.false c.property_places-p.result c.property_places-p.ensures c.is_over.result c.is_over.ensures c.if-is_over.false c.set_one-a.result c.set_one-b.result c.set_one-a.ensures.0 c.set_one-b.ensures.0 c.next_part.result c.next_part.ensures c.in-Some.u c.in-Some.is, c.set_one-a.ensures.1, c.set_one-b.ensures.1)

pub returns-after-loop-n : goal.returns-after-loop-n
returns-after-loop-n c =
    let t : length c.args.s.now < c.loop-n.n = omega arith in
    read_none c.args.s.now c.args.at c.args.held c.loop-n.n c.loop-n.i c.loop-n.a c.loop-n.b c.loop-n.invariant.0 t

pub returns-then-not-property_here : goal.returns-then-not-property_here
returns-then-not-property_here c =
    let t : c.loop-n.n ≤ length c.args.s.now = omega arith in
    read_end c.args.s.now c.args.at c.args.held c.loop-n.n c.loop-n.i c.loop-n.a c.loop-n.b c.loop-n.invariant.0 t c.property_here.result c.property_here.ensures c.if-not-property_here.true

pub returns-in-None : goal.returns-in-None
returns-in-None c =
    let t : c.loop-n.n ≤ length c.args.s.now = omega arith in
    read_last c.args.s.now c.args.at c.args.held c.loop-n.n c.loop-n.i c.loop-n.a c.loop-n.b c.loop-n.invariant.0 t c.property_here.result c.property_here.ensures c.if-not-property_here.false c.property_places-p.result c.property_places-p.ensures c.is_over.result c.is_over.ensures c.if-is_over.false c.set_one-a.result c.set_one-b.result c.set_one-a.ensures.0 c.set_one-b.ensures.0 c.next_part.result c.next_part.ensures c.in-None.is

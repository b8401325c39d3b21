use Rattle.std.specs.Prelude.{Err}
use Rattle.std.proofs.Common.{arith, rules, length, ◌≡◌, ◌≤◌, ◌<◌, ◌∙◌}
use Rattle.topology.proofs.LoopLaws.{judging_all, all_none, all_end, all_fail, all_last, all_more, kind_is}
use Rattle.topology.proofs.judge_topology.Goals as goal

pub loop-n-init : goal.loop-n-init
loop-n-init c = judging_all c.args.s.now c.args.table.now c.args.at c.args.c

pub returns-then-not-property_here : goal.returns-then-not-property_here
returns-then-not-property_here c =
    let t : c.loop-n.n ≤ length c.args.s.now = omega arith in
    all_end c.args.s.now c.args.table.now c.args.at c.args.c c.loop-n.n c.loop-n.i c.loop-n.invariant t c.property_here.result c.property_here.ensures c.if-not-property_here.true

pub judge_property-requires : goal.judge_property-requires
judge_property-requires c = (search rules, search kind_is)

pub returns-in_err-judge_property : goal.returns-in_err-judge_property
returns-in_err-judge_property c =
    let t : c.loop-n.n ≤ length c.args.s.now = omega arith in
    let h : c.from_residual.result ≡ Err c.in_err-judge_property.field-0.0 = search rules in
    h ∙ all_fail c.args.s.now c.args.table.now c.args.at c.args.c c.loop-n.n c.loop-n.i c.loop-n.invariant t c.property_here.result c.property_here.ensures c.if-not-property_here.false c.judge_property.result c.judge_property.ensures c.in_err-judge_property.field-0.0 c.in_err-judge_property.was

pub returns-in-None : goal.returns-in-None
returns-in-None c =
    let t : c.loop-n.n ≤ length c.args.s.now = omega arith in
    all_last c.args.s.now c.args.table.now c.args.at c.args.c c.loop-n.n c.loop-n.i c.loop-n.invariant t c.property_here.result c.property_here.ensures c.if-not-property_here.false c.judge_property.result c.judge_property.ensures c.in_ok-judge_property.was c.property_places-p.result c.property_places-p.ensures c.next_part.result c.next_part.ensures c.in-None.is

pub loop-n-preserved : goal.loop-n-preserved
loop-n-preserved c =
    let t : c.loop-n.n ≤ length c.args.s.now = omega arith in
    all_more c.args.s.now c.args.table.now c.args.at c.args.c c.loop-n.n c.loop-n.i c.loop-n.invariant t c.property_here.result c.property_here.ensures c.if-not-property_here.false c.judge_property.result c.judge_property.ensures c.in_ok-judge_property.was c.property_places-p.result c.property_places-p.ensures c.next_part.result c.next_part.ensures c.in-Some.u c.in-Some.is

pub returns : goal.returns
returns c =
    let t : length c.args.s.now < c.loop-n.n = omega arith in
    all_none c.args.s.now c.args.table.now c.args.at c.args.c c.loop-n.n c.loop-n.i c.loop-n.invariant t

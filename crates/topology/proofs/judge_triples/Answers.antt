use Rattle.std.specs.Prelude.{Err}
use Rattle.std.proofs.Common.{arith, rules, length, ◌≡◌, ◌≤◌, ◌<◌, ◌∙◌}
use Rattle.topology.proofs.LoopLaws.{judging, triples_none, triples_fail, triples_last, triples_more}
use Rattle.topology.proofs.judge_triples.Goals as goal

pub loop-n-init : goal.loop-n-init
loop-n-init c = judging c.args.s.now c.args.table.now c.args.at c.args.c

pub returns-in_err-judge_link : goal.returns-in_err-judge_link
returns-in_err-judge_link c =
    let t : c.loop-n.n ≤ length c.args.s.now = omega arith in
    let h : c.from_residual.result ≡ Err c.in_err-judge_link.field-0.0 = search rules in
    h ∙ triples_fail c.args.s.now c.args.table.now c.args.at c.args.c c.loop-n.n c.loop-n.i c.loop-n.invariant t c.look_up-x.result c.look_up-x.ensures c.judge_link.result c.judge_link.ensures c.in_err-judge_link.field-0.0 c.in_err-judge_link.was

pub returns-in-None : goal.returns-in-None
returns-in-None c =
    let t : c.loop-n.n ≤ length c.args.s.now = omega arith in
    triples_last c.args.s.now c.args.table.now c.args.at c.args.c c.loop-n.n c.loop-n.i c.loop-n.invariant t c.look_up-x.result c.look_up-x.ensures c.judge_link.result c.judge_link.ensures c.next_part.result c.in_ok-judge_link.was c.next_part.ensures c.in-None.is

pub loop-n-preserved : goal.loop-n-preserved
loop-n-preserved c =
    let t : c.loop-n.n ≤ length c.args.s.now = omega arith in
    triples_more c.args.s.now c.args.table.now c.args.at c.args.c c.loop-n.n c.loop-n.i c.loop-n.invariant t c.look_up-x.result c.look_up-x.ensures c.judge_link.result c.judge_link.ensures c.next_part.result c.in-Some.u c.in_ok-judge_link.was c.next_part.ensures c.in-Some.is

pub returns : goal.returns
returns c =
    let t : length c.args.s.now < c.loop-n.n = omega arith in
    triples_none c.args.s.now c.args.table.now c.args.at c.args.c c.loop-n.n c.loop-n.i c.loop-n.invariant t

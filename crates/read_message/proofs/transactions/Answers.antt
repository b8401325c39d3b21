use Rattle.std.proofs.Common.{rules, ◌≡◌, ◌∙◌, Err}
use Rattle.read_message.proofs.VerdictLaws.{none_left, part_fault, part_last, part_more}
use Rattle.read_message.proofs.transactions.Goals as goal

pub returns-in_err-i : goal.returns-in_err-i
returns-in_err-i c =
    let h : c.from_residual.result ≡ Err c.in_err-i.field-0.0 = search rules in
    h ∙ part_fault c.args.s.now c.loop-n.n c.loop-n.i _ c.loop-n.invariant c.loop-n-test.true c.part.result c.part.ensures c.in_err-i.field-0.0 c.in_err-i.was

pub returns-then-s-i : goal.returns-then-s-i
returns-then-s-i c = part_last c.args.s.now c.loop-n.n c.loop-n.i _ c.loop-n.invariant c.loop-n-test.true c.part.result c.part.ensures c.in_ok-i.i c.in_ok-i.was c.if-s-i.true

pub loop-n-preserved : goal.loop-n-preserved
loop-n-preserved c = part_more c.args.s.now c.loop-n.n c.loop-n.i _ c.loop-n.invariant c.loop-n-test.true c.part.result c.part.ensures c.in_ok-i.i c.in_ok-i.was c.if-s-i.false

pub returns : goal.returns
returns c = none_left c.args.s.now c.loop-n.n c.loop-n.i _ c.loop-n.invariant c.loop-n-test.false

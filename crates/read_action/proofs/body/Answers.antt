use Rattle.std.proofs.Common.{arith, rules, sym, ◌∙◌, ◌≡◌, ◌<◌, ◌≤◌, ◌+◌, length}
use Rattle.megaco.specs.Reading.{unlimited}
use Rattle.text.proofs.TextLaws.{next_fits}
use Rattle.read_command.proofs.ListLaws.{joined_fault, joined_ends, joined_cut, joined_more}
use Rattle.read_action.proofs.ActionLaws.{body_none, body_property}
use Rattle.read_action.proofs.body.Goals as goal

pub returns-in_err-e : goal.returns-in_err-e
unfolding unlimited
returns-in_err-e c =
    let t : c.loop-n.n < length c.args.s.now + 1 = omega arith in
    let k = body_property c.args.s.now (length c.args.s.now + 1) c.loop-n.n c.loop-n.i _ c.loop-n.invariant t c.property_here.result c.property_here.ensures c.if-not-property_here.false in
    c.from_residual.ensures ∙ joined_fault _ c.args.s.now _ _ k (sym c.in_err-e.was ∙ c.property.ensures)

pub returns-then-not-is_at : goal.returns-then-not-is_at
unfolding unlimited
returns-then-not-is_at c =
    let t : c.loop-n.n < length c.args.s.now + 1 = omega arith in
    let k = body_property c.args.s.now (length c.args.s.now + 1) c.loop-n.n c.loop-n.i _ c.loop-n.invariant t c.property_here.result c.property_here.ensures c.if-not-property_here.false in
    joined_ends _ c.args.s.now _ _ k c.in_ok-e.e (sym c.in_ok-e.was ∙ c.property.ensures) c.is_at.result c.is_at.ensures c.if-not-is_at.true

pub overflow_add-e : goal.overflow_add-e
overflow_add-e c = search (rules, next_fits)

pub returns-in_err-i : goal.returns-in_err-i
unfolding unlimited
returns-in_err-i c =
    let t : c.loop-n.n < length c.args.s.now + 1 = omega arith in
    let k = body_property c.args.s.now (length c.args.s.now + 1) c.loop-n.n c.loop-n.i _ c.loop-n.invariant t c.property_here.result c.property_here.ensures c.if-not-property_here.false in
    c.from_residual-in_err-i.ensures ∙ joined_cut _ c.args.s.now _ _ k c.in_ok-e.e (sym c.in_ok-e.was ∙ c.property.ensures) c.is_at.result c.is_at.ensures c.if-not-is_at.false c.white.result c.white.ensures c.in_err-i.was

pub loop-n-preserved : goal.loop-n-preserved
loop-n-preserved c =
    let t : c.loop-n.n < length c.args.s.now + 1 = omega arith in
    let k = body_property c.args.s.now (length c.args.s.now + 1) c.loop-n.n c.loop-n.i _ c.loop-n.invariant t c.property_here.result c.property_here.ensures c.if-not-property_here.false in
    joined_more _ c.args.s.now _ _ k c.in_ok-e.e (sym c.in_ok-e.was ∙ c.property.ensures) c.is_at.result c.is_at.ensures c.if-not-is_at.false c.white.result c.white.ensures c.in_ok-i.i c.in_ok-i.was

pub returns : goal.returns
unfolding unlimited
returns c =
    let t : length c.args.s.now + 1 ≤ c.loop-n.n = omega arith in
    body_none c.args.s.now (length c.args.s.now + 1) c.loop-n.n c.loop-n.i _ c.loop-n.invariant t

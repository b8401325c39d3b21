use Rattle.std.proofs.Common.{arith, rules, ap, ◌∙◌, ◌≡◌, ◌<◌, ◌+◌, ◌-◌, ◌≤◌, ℕ, Some, None}
use Rattle.read_command.specs.Production.{list_at, joined_at}
use Rattle.text.proofs.TextLaws.{next_fits}
use Rattle.protocol.specs.Types.{Parsed}
use Rattle.read_command.proofs.ListLaws.{list_none, list_opened, joined_fault, joined_ends, joined_cut, joined_more}
use Rattle.read_command.proofs.list.Goals as goal

pub loop-n-init : goal.loop-n-init
loop-n-init g c = (omega arith, λ one h. let z : c.args.most - 0 ≡ c.args.most = omega arith in ap (λ m. list_at one c.args.s.now m c.args.at) z)

pub returns-in_err-e : goal.returns-in_err-e
returns-in_err-e g c one h =
    let t : c.loop-n.n < c.args.most = omega arith in
    let k = list_opened one c.args.s.now c.args.most c.loop-n.n c.loop-n.i _ (c.loop-n.invariant.1 one h) t in
    c.from_residual.ensures ∙ joined_fault _ c.args.s.now _ _ k (h c.loop-n.i None c.loop-n.invariant.0 c.in_err-e.ensures)

pub returns-then-not-is_at : goal.returns-then-not-is_at
returns-then-not-is_at g c one h =
    let t : c.loop-n.n < c.args.most = omega arith in
    let k = list_opened one c.args.s.now c.args.most c.loop-n.n c.loop-n.i _ (c.loop-n.invariant.1 one h) t in
    joined_ends _ c.args.s.now _ _ k c.in_ok-e.e (h c.loop-n.i (Some c.in_ok-e.e) c.loop-n.invariant.0 c.in_ok-e.ensures) c.is_at.result c.is_at.ensures c.if-not-is_at.true

pub overflow_add-e : goal.overflow_add-e
overflow_add-e g c = search (rules, next_fits)

pub returns-in_err-i : goal.returns-in_err-i
returns-in_err-i g c one h =
    let t : c.loop-n.n < c.args.most = omega arith in
    let k = list_opened one c.args.s.now c.args.most c.loop-n.n c.loop-n.i _ (c.loop-n.invariant.1 one h) t in
    c.from_residual-in_err-i.ensures
    ∙ joined_cut _ c.args.s.now _ _ k c.in_ok-e.e (h c.loop-n.i (Some c.in_ok-e.e) c.loop-n.invariant.0 c.in_ok-e.ensures) c.is_at.result c.is_at.ensures c.if-not-is_at.false c.white.result c.white.ensures c.in_err-i.was

pub loop-n-preserved : goal.loop-n-preserved
loop-n-preserved g c = (
  omega arith,
  λ one h.
      let t : c.loop-n.n < c.args.most = omega arith in
      let k = list_opened one c.args.s.now c.args.most c.loop-n.n c.loop-n.i _ (c.loop-n.invariant.1 one h) t in
      joined_more _ c.args.s.now _ _ k c.in_ok-e.e (h c.loop-n.i (Some c.in_ok-e.e) c.loop-n.invariant.0 c.in_ok-e.ensures) c.is_at.result c.is_at.ensures c.if-not-is_at.false c.white.result c.white.ensures
      c.in_ok-i.i c.in_ok-i.was,
)

pub returns : goal.returns
returns g c one h =
    let t : c.args.most ≤ c.loop-n.n = omega arith in
    list_none one c.args.s.now c.args.most c.loop-n.n c.loop-n.i _ (c.loop-n.invariant.1 one h) t

use Rattle.std.proofs.Common.{rules, arith, ◌≡◌, ◌<◌, ◌≤◌, ◌-◌, ◌∙◌, ap, None}
use Rattle.read_command.specs.Production.{list_end}
use Rattle.texts.specs.Texts.{sought, holders_in}
use Rattle.texts.proofs.SeekLaws.{seek_none, seek_here, seek_last, seek_more}
use Rattle.texts.proofs.list.Goals as goal

pub loop-n-init : goal.loop-n-init
loop-n-init g c = (
  omega arith,
  omega arith,
  λ one end h.
      let z : c.args.most - 0 ≡ c.args.most = omega arith in
      ap (λ m. sought (holders_in one end c.args.s.now m c.args.at) (list_end end c.args.s.now m c.args.at) c.args.k) z,
)

pub returns-in_err-b : goal.returns-in_err-b
returns-in_err-b g c one end h =
    let t : c.loop-n.n < c.args.most = omega arith in
    let y = h c.loop-n.i c.loop-n.left c.part.result c.loop-n.invariant.0 c.loop-n.invariant.1 c.part.ensures in
    c.from_residual.ensures
    ∙ seek_here one end c.args.s.now c.args.most c.loop-n.n c.loop-n.i c.loop-n.left _ (c.loop-n.invariant.2 one end h) t c.part.result y c.in_err-b.field-0.0 c.in_err-b.was

pub returns-in_default : goal.returns-in_default
returns-in_default g c one end h =
    let t : c.loop-n.n < c.args.most = omega arith in
    let w : c.next_part.result ≡ None = search rules in
    let y = h c.loop-n.i c.loop-n.left c.part.result c.loop-n.invariant.0 c.loop-n.invariant.1 c.part.ensures in
    seek_last one end c.args.s.now c.args.most c.loop-n.n c.loop-n.i c.loop-n.left _ (c.loop-n.invariant.2 one end h) t c.part.result y c.in_ok-b.b c.in_ok-b.was c.next_part.result c.next_part.ensures w

pub loop-n-preserved : goal.loop-n-preserved
loop-n-preserved g c = (
  omega arith,
  omega arith,
  λ one end h.
      let t : c.loop-n.n < c.args.most = omega arith in
      let y = h c.loop-n.i c.loop-n.left c.part.result c.loop-n.invariant.0 c.loop-n.invariant.1 c.part.ensures in
      seek_more one end c.args.s.now c.args.most c.loop-n.n c.loop-n.i c.loop-n.left _ (c.loop-n.invariant.2 one end h) t c.part.result y c.in_ok-b.b c.in_ok-b.was c.next_part.result c.next_part.ensures c.in-Some.u c.in-Some.is,
)

pub returns : goal.returns
returns g c one end h =
    let t : c.args.most ≤ c.loop-n.n = omega arith in
    seek_none one end c.args.s.now c.args.most c.loop-n.n c.loop-n.i c.loop-n.left _ (c.loop-n.invariant.2 one end h) t

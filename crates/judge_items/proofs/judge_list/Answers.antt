use Rattle.std.proofs.Common.{rules, arith, ap, refl, ◌∙◌, ◌≡◌, ◌<◌, ◌+◌, ◌-◌, ◌≤◌, length, Ok, Err}
use Rattle.judge_items.specs.Judging.{judge_list}
use Rattle.judge_items.proofs.ListLaws.{list_none, list_wrong, list_last, list_more}
use Rattle.judge_items.proofs.judge_list.Goals as goal

pub loop-n-init : goal.loop-n-init
loop-n-init g c = (omega arith, λ f h. let z : length c.args.s.now + 1 ≡ length c.args.s.now + 1 - 0 = omega arith in ap (λ m. judge_list f c.args.s.now m c.args.at c.args.stood c.args.values) z)

pub returns-in_err-x : goal.returns-in_err-x
returns-in_err-x g c f h =
    let t : 0 < length c.args.s.now + 1 - c.loop-n.n = omega arith in
    let r : c.from_residual.result ≡ Err c.in_err-x.field-0.0 = search rules in
    r
    ∙ list_wrong f c.args.s.now (length c.args.s.now + 1 - c.loop-n.n) c.loop-n.i c.loop-n.st c.loop-n.vs _ (c.loop-n.invariant.1 f h) t (Err c.in_err-x.field-0.0)
    (h c.loop-n.i c.loop-n.st c.loop-n.vs (Err c.in_err-x.field-0.0) c.loop-n.invariant.0 c.in_err-x.ensures) c.in_err-x.field-0.0 refl

pub returns-in-None : goal.returns-in-None
returns-in-None g c f h =
    let t : 0 < length c.args.s.now + 1 - c.loop-n.n = omega arith in
    list_last f c.args.s.now (length c.args.s.now + 1 - c.loop-n.n) c.loop-n.i c.loop-n.st c.loop-n.vs _ (c.loop-n.invariant.1 f h) t (Ok (c.in_ok-x.x, c.in_ok-x.next))
    (h c.loop-n.i c.loop-n.st c.loop-n.vs (Ok (c.in_ok-x.x, c.in_ok-x.next)) c.loop-n.invariant.0 c.in_ok-x.ensures) c.in_ok-x.x c.in_ok-x.next refl c.next_part.result c.next_part.ensures c.in-None.is

pub loop-n-preserved : goal.loop-n-preserved
loop-n-preserved g c = (
  omega arith,
  λ f h.
      let t : 0 < length c.args.s.now + 1 - c.loop-n.n = omega arith in
      let z : length c.args.s.now + 1 - c.loop-n.n - 1 ≡ length c.args.s.now + 1 - (c.loop-n.n + 1) = omega arith in
      rw (← z) (list_more f c.args.s.now (length c.args.s.now + 1 - c.loop-n.n) c.loop-n.i c.loop-n.st c.loop-n.vs _ (c.loop-n.invariant.1 f h) t (Ok (c.in_ok-x.x, c.in_ok-x.next))
      (h c.loop-n.i c.loop-n.st c.loop-n.vs (Ok (c.in_ok-x.x, c.in_ok-x.next)) c.loop-n.invariant.0 c.in_ok-x.ensures) c.in_ok-x.x c.in_ok-x.next refl c.next_part.result c.next_part.ensures c.in-Some.u c.in-Some.is),
)

pub returns : goal.returns
returns g c f h =
    let t : length c.args.s.now + 1 - c.loop-n.n ≤ 0 = omega arith in
    list_none f c.args.s.now (length c.args.s.now + 1 - c.loop-n.n) c.loop-n.i c.loop-n.st c.loop-n.vs _ (c.loop-n.invariant.1 f h) t

use Rattle.std.proofs.Common.{arith, ap, ◌≡◌, ◌<◌, ◌+◌, ◌-◌, ◌≤◌}
use Rattle.read_command.specs.Production.{list_end}
use Rattle.command_places.proofs.EndLaws.{end_none, end_last, end_more}
use Rattle.command_places.proofs.list_end.Goals as goal

pub loop-n-init : goal.loop-n-init
loop-n-init g c = (omega arith, λ one h. let z : c.args.most ≡ c.args.most - 0 = omega arith in ap (λ m. list_end one c.args.s.now m c.args.at) z)

pub returns-in-None : goal.returns-in-None
returns-in-None g c one h =
    let t : 0 < c.args.most - c.loop-n.n = omega arith in
    end_last one c.args.s.now (c.args.most - c.loop-n.n) c.loop-n.i _ (c.loop-n.invariant.1 one h) t c.end-e.result (h c.loop-n.i c.end-e.result c.loop-n.invariant.0 c.end-e.ensures) c.next_part.result c.next_part.ensures c.in-None.is

pub loop-n-preserved : goal.loop-n-preserved
loop-n-preserved g c = (
  omega arith,
  λ one h.
      let t : 0 < c.args.most - c.loop-n.n = omega arith in
      let z : c.args.most - c.loop-n.n - 1 ≡ c.args.most - (c.loop-n.n + 1) = omega arith in
      rw (← z) (end_more one c.args.s.now (c.args.most - c.loop-n.n) c.loop-n.i _ (c.loop-n.invariant.1 one h) t c.end-e.result (h c.loop-n.i c.end-e.result c.loop-n.invariant.0 c.end-e.ensures) c.next_part.result c.next_part.ensures c.in-Some.u c.in-Some.is),
)

pub returns : goal.returns
returns g c one h =
    let t : c.args.most - c.loop-n.n ≤ 0 = omega arith in
    end_none one c.args.s.now (c.args.most - c.loop-n.n) c.loop-n.i _ (c.loop-n.invariant.1 one h) t

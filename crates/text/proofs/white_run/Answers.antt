use Rattle.std.proofs.Common.{arith, refl, ap, ◌∙◌, ◌≡◌, ◌<◌, ◌≤◌, length, max}
use Rattle.megaco.specs.White.{white_at, stop_at}
use Rattle.text.proofs.TextLaws.{white_on, white_stop, white_end}
use Rattle.text.proofs.white_run.Goals as goal

pub loop-i-init : goal.loop-i-init
unfolding white_at
loop-i-init c = (refl, omega arith)

pub loop-i-preserved : goal.loop-i-preserved
loop-i-preserved c =
    let h : c.loop-i.i < length c.args.s.now = omega arith in
    (white_on c.args.s.now c.loop-i.i c.loop-i.inside _ c.loop-i.invariant.0 c.goes_on.result c.inside_after-inside.result h c.goes_on.ensures c.if-not-goes_on.false c.inside_after-inside.ensures, omega arith)

pub returns-then-not-goes_on : goal.returns-then-not-goes_on
returns-then-not-goes_on c =
    let h : c.loop-i.i < length c.args.s.now = omega arith in
    white_stop c.args.s.now c.loop-i.i c.loop-i.inside _ c.loop-i.invariant.0 c.goes_on.result c.stop_at.result h c.goes_on.ensures c.if-not-goes_on.true c.stop_at.ensures

pub returns : goal.returns
returns c =
    let m : c.max.result ≡ c.loop-i.i = omega arith in
    let h : length c.args.s.now ≤ c.loop-i.i = omega arith in
    white_end c.args.s.now c.loop-i.i c.loop-i.inside _ c.loop-i.invariant.0 c.stop_at-2.result h (c.stop_at-2.ensures ∙ ap (λ n. stop_at c.loop-i.inside n) m)

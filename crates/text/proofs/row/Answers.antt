use Rattle.std.proofs.Common.{arith, ◌≡◌, ◌<◌, ◌≤◌, ◌∙◌, length, max}
use Rattle.text.proofs.TextLaws.{row_starts, row_on, row_stop, row_end}
use Rattle.text.proofs.row.Goals as goal

pub loop-i-init : goal.loop-i-init
loop-i-init c = (row_starts c.low_of-low.result c.high_of-high.result c.args.s.now c.args.at, omega arith)

pub loop-i-preserved : goal.loop-i-preserved
loop-i-preserved c =
    let h : c.loop-i.i < length c.args.s.now = omega arith in
    (row_on c.low_of-low.result c.high_of-high.result c.args.s.now c.args.at c.loop-i.i c.loop-i.invariant.0 c.in_maps.result h c.in_maps.ensures c.if-not-in_maps.false, omega arith)

pub returns-then-not-in_maps : goal.returns-then-not-in_maps
returns-then-not-in_maps c =
    let h : c.loop-i.i < length c.args.s.now = omega arith in
    row_stop c.low_of-low.result c.high_of-high.result c.args.s.now c.args.at c.loop-i.i c.loop-i.invariant.0 c.args.k c.low_of-low.ensures c.high_of-high.ensures c.in_maps.result h c.in_maps.ensures c.if-not-in_maps.true

pub returns : goal.returns
returns c =
    let m : c.max.result ≡ c.loop-i.i = omega arith in
    let h : length c.args.s.now ≤ c.loop-i.i = omega arith in
    m ∙ row_end c.low_of-low.result c.high_of-high.result c.args.s.now c.args.at c.loop-i.i c.loop-i.invariant.0 c.args.k c.low_of-low.ensures c.high_of-high.ensures h

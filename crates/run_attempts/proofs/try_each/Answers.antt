use Rattle.std.proofs.Common.{arith, rules, refl, ◌<◌, ◌≤◌, length}
use Rattle.megaco.proofs.Sizes.{sized_same}
use Rattle.run_attempts.proofs.RunsToLaws.{tries_on, tries_end}
use Rattle.run_attempts.proofs.try_each.Goals as goal

pub try_one-w-requires : goal.try_one-w-requires
try_one-w-requires c = (sized_same _ _ c.loop-i.invariant.0 c.requires.0, c.requires.1)

pub loop-i-preserved : goal.loop-i-preserved
loop-i-preserved c =
    let k : c.loop-i.i-index < length c.args.matched.now = omega arith in
    (search rules, search rules, search rules, tries_on _ _ _ _ _ _ _ _ _ _ _ _ _ _ _ _ _ c.loop-i.invariant.3 _ _ _ _ k refl c.try_one-w.ensures)

pub returns : goal.returns
returns c =
    let k : length c.args.matched.now ≤ c.loop-i.i-index = omega arith in
    tries_end _ _ _ _ _ _ _ _ _ _ _ _ _ _ _ _ _ c.loop-i.invariant.3 k

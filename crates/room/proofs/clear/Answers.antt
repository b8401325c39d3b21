use Rattle.std.proofs.Common.{rules, ◌≡◌, ◌-◌, replicate}
use Rattle.room.proofs.PutLaws.{cleared, none_cleared}
use Rattle.room.proofs.clear.Goals as goal

pub returns-then-at-end : goal.returns-then-at-end
returns-then-at-end c =
    let z : c.fill.new.self ≡ replicate (c.min-end.result - c.args.at) 0 = search rules in
    cleared c.args.words.now c.args.at c.min-end.result c.min-end.ensures c.if-at-end.true c.fill.new.self z

pub returns-else-at-end : goal.returns-else-at-end
returns-else-at-end c = none_cleared c.args.words.now c.args.at c.min-end.result c.min-end.ensures c.if-at-end.false

use Rattle.std.proofs.Common.{rules, ◌≡◌, ◌∙◌, sym, arith}
use Rattle.room.proofs.RoomLaws.{free_here, free_on, free_end}
use Rattle.room.proofs.lowest_free.Goals as goal

pub returns-then-not-has_word : goal.returns-then-not-has_word
returns-then-not-has_word c = sym (c.loop-n.invariant ∙ search (rules, free_here))

pub loop-n-preserved : goal.loop-n-preserved
loop-n-preserved c = c.loop-n.invariant ∙ search (rules, free_on)

pub returns : goal.returns
returns c = let n : c.loop-n.n ≡ 17 = omega arith in sym (c.loop-n.invariant ∙ rw n (free_end c.args.row.now))

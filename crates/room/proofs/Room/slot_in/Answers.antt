use Rattle.std.proofs.Common.{rules, ◌∙◌, sym}
use Rattle.room.proofs.RoomLaws.{find_none, find_here, find_on, find_end}
use Rattle.room.proofs.Room.slot_in.Goals as goal

pub returns-then-n-eq0 : goal.returns-then-n-eq0
returns-then-n-eq0 c = c.loop-n.invariant ∙ search (rules, find_none)

pub returns-then-is_under : goal.returns-then-is_under
returns-then-is_under c = (sym (c.loop-n.invariant ∙ search (rules, find_here)), c.if-n-eq0.false)

pub loop-n-preserved : goal.loop-n-preserved
loop-n-preserved c = c.loop-n.invariant ∙ search (rules, find_on)

pub returns : goal.returns
returns c = c.loop-n.invariant ∙ search (rules, find_end)

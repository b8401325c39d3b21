use Rattle.std.proofs.Common.{rules}
use Rattle.sessions.proofs.EachLaws.{begin, each_on, each_end}
use Rattle.sessions.proofs.put_lines.Goals as goal

pub loop-i-init : goal.loop-i-init
loop-i-init c = begin _ _ _

pub loop-i-preserved : goal.loop-i-preserved
loop-i-preserved c = search (rules, each_on)

pub returns : goal.returns
returns c = search (rules, each_end)

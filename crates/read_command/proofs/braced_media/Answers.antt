use Rattle.read_command.proofs.ItemLaws.{media_empty}
use Rattle.read_command.proofs.braced_media.Goals as goal

pub returns-then-empty_here : goal.returns-then-empty_here
returns-then-empty_here c = media_empty c.args.s.now c.args.start c.args.at c.in_ok-p.p c.is_at.result c.empty_here.result c.white.result c.sign.result c.is_at.ensures c.if-is_at.true c.white.ensures c.in_ok-p.was c.empty_here.ensures c.if-empty_here.true c.sign.ensures

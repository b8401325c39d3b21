use Rattle.read_command.proofs.ItemLaws.{top_media, top_other}
use Rattle.read_command.proofs.top_item.Goals as goal

pub returns-then-media_from : goal.returns-then-media_from
returns-then-media_from c = top_media c.args.s.now c.args.at c.word.result c.word.ensures c.in_ok-e.e c.in_ok-e.was c.head_from.result c.head_from.ensures c.media_from.result c.in_ok-p.p c.in_ok-p.was c.braced_media.result c.media_from.ensures c.if-media_from.true c.braced_media.ensures

pub returns : goal.returns
returns c = top_other c.args.s.now c.args.at c.word.result c.word.ensures c.in_ok-e.e c.in_ok-e.was c.head_from.result c.head_from.ensures c.media_from.result c.in_ok-p.p c.in_ok-p.was c.braced_items.result c.media_from.ensures c.if-media_from.false c.braced_items.ensures

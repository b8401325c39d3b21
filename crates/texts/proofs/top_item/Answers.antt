use Rattle.texts.proofs.SeekLaws.{item_inside}
use Rattle.texts.proofs.top_item.Goals as goal

pub returns-in-Some : goal.returns-in-Some
returns-in-Some c =
    item_inside c.args.s.now c.args.at c.media_here.result c.media_here.ensures c.args.command c.args.left c.item_places.result c.item_places.ensures c.if-media_here.true c.in-Some.inside c.in-Some.is c.media.result c.closed.result
    c.media.ensures c.closed.ensures

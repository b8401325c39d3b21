use Rattle.row_laws.proofs.ItemLaws.{side_small}
use Rattle.row.proofs.reading.fill_item.Goals as goal

pub fill_side-requires : goal.fill_side-requires
fill_side-requires c = side_small c.args.lines c.requires.0 c.args.j c.in-Side.k c.item_at-s.result c.requires.1 c.item_at-s.ensures c.in-Side.is

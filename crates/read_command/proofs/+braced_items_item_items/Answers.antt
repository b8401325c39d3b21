use Rattle.megaco.specs.Reading.{unlimited}
use Rattle.read_command.specs.Places.{item_at, items_at}
use Rattle.read_command.proofs.ItemLaws.{braces_deep}
use Rattle.read_command.proofs.+braced_items_item_items.Goals as goal

pub braced_items-returns-then-left-eq0 : goal.braced_items-returns-then-left-eq0
braced_items-returns-then-left-eq0 t c = braces_deep c.args.s.now c.args.left c.args.at c.is_at.result c.is_at.ensures c.if-is_at.true c.if-left-eq0.true c.args.start

pub items-returns : goal.items-returns
unfolding items_at unlimited
items-returns t c = c.list.ensures (λ i. (item_at c.args.left (items_at c.args.left c.args.s.now) c.args.s.now i).place) (λ i r k p. p)

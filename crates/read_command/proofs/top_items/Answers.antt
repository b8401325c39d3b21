use Rattle.megaco.specs.Reading.{unlimited}
use Rattle.read_command.specs.Places.{top_item_at, top_at}
use Rattle.read_command.proofs.top_items.Goals as goal

pub returns : goal.returns
unfolding top_at unlimited
returns c = c.list.ensures (λ i. (top_item_at c.args.s.now i).place) (λ i r k p. p)

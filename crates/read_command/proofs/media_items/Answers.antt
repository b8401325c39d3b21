use Rattle.megaco.specs.Reading.{unlimited}
use Rattle.read_command.specs.Places.{media_item_at, media_at}
use Rattle.read_command.proofs.media_items.Goals as goal

pub returns : goal.returns
unfolding media_at unlimited
returns c = c.list.ensures (λ i. (media_item_at c.args.s.now i).place) (λ i r k p. p)

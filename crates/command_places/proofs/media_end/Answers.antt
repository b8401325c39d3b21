use Rattle.megaco.specs.Reading.{unlimited}
use Rattle.read_command.specs.Places.{media_item_at, media_at}
use Rattle.command_places.proofs.media_end.Goals as goal

pub returns : goal.returns
unfolding media_at unlimited
returns c = c.list_end.ensures (λ i. (media_item_at c.args.s.now i).end) (λ i r k p. p)

use Rattle.megaco.specs.Reading.{unlimited}
use Rattle.read_command.specs.Places.{top_item_at, top_at}
use Rattle.command_places.proofs.top_end.Goals as goal

pub returns : goal.returns
unfolding top_at unlimited
returns c = c.list_end.ensures (λ i. (top_item_at c.args.s.now i).end) (λ i r k p. p)

use Rattle.megaco.specs.Reading.{unlimited}
use Rattle.read_command.specs.Places.{triple_at, triples_at}
use Rattle.action_places.proofs.triples_end.Goals as goal

pub returns : goal.returns
unfolding triples_at unlimited
returns c = c.list_end.ensures (λ i. (triple_at c.args.s.now i).end) (λ i r k p. p)

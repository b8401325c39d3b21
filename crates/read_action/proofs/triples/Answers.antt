use Rattle.megaco.specs.Reading.{unlimited}
use Rattle.read_command.specs.Places.{triple_at, triples_at}
use Rattle.read_action.proofs.triples.Goals as goal

pub returns : goal.returns
unfolding triples_at unlimited
returns c = c.list.ensures (λ i. (triple_at c.args.s.now i).place) (λ i r k p. p)

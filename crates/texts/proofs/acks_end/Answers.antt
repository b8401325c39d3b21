use Rattle.megaco.specs.Reading.{unlimited}
use Rattle.read_command.specs.Places.{ack_at, acks_at}
use Rattle.texts.proofs.acks_end.Goals as goal

pub returns : goal.returns
unfolding acks_at unlimited
returns c = c.list_end.ensures (λ i. (ack_at c.args.s.now i).end) (λ i r k p. p)

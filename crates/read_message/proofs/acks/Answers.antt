use Rattle.megaco.specs.Reading.{unlimited}
use Rattle.read_command.specs.Places.{ack_at, acks_at}
use Rattle.read_message.proofs.acks.Goals as goal

pub returns : goal.returns
unfolding acks_at unlimited
returns c = c.list.ensures (λ i. (ack_at c.args.s.now i).place) (λ i r k p. p)

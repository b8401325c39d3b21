use Rattle.megaco.specs.Reading.{unlimited}
use Rattle.read_command.specs.Places.{top_item_at, top_at}
use Rattle.texts.specs.Texts.{top_item_holders, top_holders}
use Rattle.texts.proofs.top.Goals as goal

pub returns : goal.returns
unfolding top_holders top_at unlimited
returns c = c.list.ensures (top_item_holders c.args.s.now c.args.command) (λ j. (top_item_at c.args.s.now j).end) (λ i l r h k p. p)

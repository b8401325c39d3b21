use Rattle.megaco.specs.Reading.{unlimited}
use Rattle.read_command.specs.Places.{media_item_at, media_at}
use Rattle.texts.specs.Texts.{media_item_holders, media_holders}
use Rattle.texts.proofs.media.Goals as goal

pub returns : goal.returns
unfolding media_holders media_at unlimited
returns c = c.list.ensures (media_item_holders c.args.s.now c.args.command) (λ j. (media_item_at c.args.s.now j).end) (λ i l r h k p. p)

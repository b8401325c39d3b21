use Rattle.std.proofs.Common.{◌∙◌, ◌∷◌, []}
use Rattle.megaco.specs.Items.{media_items}
use Rattle.read_command.specs.Places.{media_item_at}
use Rattle.judge_items.specs.Judging.{ended_next, stood_next}
use Rattle.judge_items.proofs.ListLaws.{media_all}
use Rattle.judge_items.proofs.media_items.Goals as goal

pub returns : goal.returns
returns c = c.judge_list.ensures (λ i stood us. ended_next (media_items ((media_item_at c.args.s.now i).tree ∷ []) stood us) (media_item_at c.args.s.now i).end (stood_next (media_item_at c.args.s.now i).tree stood)) (λ i st us r k p. p.1) ∙ media_all c.args.s.now c.args.at c.args.values

use Rattle.std.proofs.Common.{◌∙◌, ◌∷◌, [], true}
use Rattle.megaco.specs.Items.{property_items}
use Rattle.read_command.specs.Places.{item_at, items_at}
use Rattle.judge_items.specs.Judging.{ended_next}
use Rattle.judge_items.proofs.ListLaws.{property_all}
use Rattle.judge_items.proofs.property_items.Goals as goal

pub returns : goal.returns
returns c = c.judge_list.ensures (λ i seen us. ended_next (property_items c.args.k ((item_at 5 (items_at 5 c.args.s.now) c.args.s.now i).tree ∷ []) seen us) (item_at 5 (items_at 5 c.args.s.now) c.args.s.now i).end true) (λ i st us r k p. p.1) ∙ property_all c.args.s.now c.args.at c.args.values c.args.k

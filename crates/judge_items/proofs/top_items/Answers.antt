use Rattle.std.proofs.Common.{◌∙◌, ◌∷◌, [], true}
use Rattle.megaco.specs.Items.{top_items}
use Rattle.read_command.specs.Places.{top_item_at}
use Rattle.judge_items.specs.Judging.{ended_next}
use Rattle.judge_items.proofs.ListLaws.{top_all}
use Rattle.judge_items.proofs.top_items.Goals as goal

pub returns : goal.returns
returns c = c.judge_list.ensures (λ i seen us. ended_next (top_items ((top_item_at c.args.s.now i).tree ∷ []) seen us) (top_item_at c.args.s.now i).end true) (λ i st us r k p. p.1) ∙ top_all c.args.s.now c.args.at c.args.values

use Rattle.std.proofs.Common.{◌∙◌, ◌∷◌, [], true}
use Rattle.megaco.specs.Items.{audited_items}
use Rattle.read_command.specs.Places.{item_at, items_at}
use Rattle.judge_items.specs.Judging.{ended_next}
use Rattle.judge_items.proofs.ListLaws.{audited_all}
use Rattle.judge_items.proofs.audited_items.Goals as goal

pub returns : goal.returns
returns c = c.judge_list.ensures (λ i seen us. ended_next (audited_items ((item_at 6 (items_at 6 c.args.s.now) c.args.s.now i).tree ∷ []) seen us) (item_at 6 (items_at 6 c.args.s.now) c.args.s.now i).end true) (λ i st us r k p. p.1) ∙ audited_all c.args.s.now c.args.at c.args.values

use Rattle.std.proofs.Common.{◌∙◌, ◌∷◌, [], true}
use Rattle.megaco.specs.Items.{audit_items}
use Rattle.read_command.specs.Places.{top_item_at}
use Rattle.judge_items.specs.Judging.{ended_next}
use Rattle.judge_items.proofs.ListLaws.{audit_all}
use Rattle.judge_items.proofs.audit_items.Goals as goal

pub returns : goal.returns
returns c = c.judge_list.ensures (λ i seen us. ended_next (audit_items ((top_item_at c.args.s.now i).tree ∷ []) seen us) (top_item_at c.args.s.now i).end true) (λ i st us r k p. p.1) ∙ audit_all c.args.s.now c.args.at c.args.values

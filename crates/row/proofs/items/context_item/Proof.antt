use Rattle.row.proofs.ItemLaws.{its_record, its_flow}
use borrow.Author.Rules.{rules}
use Rattle.row.proofs.items.context_item.Statement.{statement}
use Rattle.row.proofs.items.context_item.Tie as tie

pub context_item_spec : {M : Type 1} → statement M
context_item_spec =
    tie.close
    (tie.spec
    (λ c κs. search rules)
    (λ c. search rules)
    (λ c. search its_record)
    (λ c κs. search rules)
    (λ c. search rules)
    (λ c. search rules)
    (λ c. search rules)
    (λ c. search rules)
    (λ c. search its_flow))

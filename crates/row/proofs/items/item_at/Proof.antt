use Rattle.row.proofs.ItemLaws.{of_line, of_ephemeral, of_context}
use borrow.Author.Rules.{rules}
use Rattle.row.proofs.items.item_at.Statement.{statement}
use Rattle.row.proofs.items.item_at.Tie as tie

pub item_at_spec : {M : Type 1} → statement M
item_at_spec =
    tie.close
    (tie.spec
    (λ c κs. search rules)
    (λ c. search rules)
    (λ c κs. search rules)
    (λ c. search of_line)
    (λ c. search rules)
    (λ c. search rules)
    (λ c. search rules)
    (λ c κs. search rules)
    (λ c. search of_ephemeral)
    (λ c κs. search rules)
    (λ c. search of_context))

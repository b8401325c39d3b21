use Rattle.row.proofs.ItemLaws.{ephemeral_word, ephemeral_side}
use borrow.Author.Rules.{rules}
use Rattle.row.proofs.items.ephemeral_item.Statement.{statement}
use Rattle.row.proofs.items.ephemeral_item.Tie as tie

pub ephemeral_item_spec : {M : Type 1} → statement M
ephemeral_item_spec =
    tie.close
    (tie.spec
    (λ c κs. search rules)
    (λ c. search rules)
    (λ c κs. search rules)
    (λ c. search ephemeral_word)
    (λ c κs. search rules)
    (λ c. search rules)
    (λ c. search rules)
    (λ c. search rules)
    (λ c. search rules)
    (λ c. search ephemeral_side))

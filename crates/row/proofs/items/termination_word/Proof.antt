use Rattle.row.proofs.ItemLaws.{its_context, its_property}
use borrow.Author.Rules.{rules}
use Rattle.row.proofs.items.termination_word.Statement.{statement}
use Rattle.row.proofs.items.termination_word.Tie as tie

pub termination_word_spec : {M : Type 1} → statement M
termination_word_spec =
    tie.close
    (tie.spec
    (λ c. search its_context)
    (λ c κs. search rules)
    (λ c. search rules)
    (λ c. search its_property))

use borrow.Author.Rules.{rules}
use Rattle.run_message.proofs.ServeLaws.{concludes}
use Rattle.run_message.proofs.conclude.Statement.{statement}
use Rattle.run_message.proofs.conclude.Tie as tie

pub conclude_spec : {M : Type 1} → statement M
conclude_spec =
    tie.close
    (tie.spec
    (λ c κs. search rules)
    (λ c κs. search rules)
    (λ c κs. search rules)
    (λ c. search rules)
    (λ c. search rules)
    (λ c. search rules)
    (λ c. search concludes))

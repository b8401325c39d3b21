use borrow.Author.Rules.{rules}
use Rattle.run_message.proofs.ServeLaws.{limits_none, limits}
use Rattle.run_message.proofs.conclude_limited.Statement.{statement}
use Rattle.run_message.proofs.conclude_limited.Tie as tie

pub conclude_limited_spec : {M : Type 1} → statement M
conclude_limited_spec =
    tie.close
    (tie.spec
    (λ c κs. search rules)
    (λ c. search rules)
    (λ c. search rules)
    (λ c. search rules)
    (λ c. search limits_none)
    (λ c. search rules)
    (λ c κs. search rules)
    (λ c. search rules)
    (λ c κs. search rules)
    (λ c. search rules)
    (λ c. search rules)
    (λ c. search rules)
    (λ c. search limits))

use borrow.Author.Rules.{rules}
use Rattle.run_message.proofs.ServeLaws.{transaction_runs, transaction_closes, scratch_fits}
use Rattle.run_message.proofs.run_transaction.Statement.{statement}
use Rattle.run_message.proofs.run_transaction.Tie as tie

pub run_transaction_spec : {M : Type 1} → statement M
run_transaction_spec =
    tie.close
    (tie.spec
    (λ c. search rules)
    (λ c κs. search rules)
    (λ c. search rules)
    (λ c κs. (search rules, search scratch_fits))
    (λ c. search rules)
    (λ c κs. search rules)
    (λ c. search rules)
    (λ c κs. search rules)
    (λ c κs. search rules)
    (λ c. search rules)
    (λ c. search rules)
    (λ c. search rules)
    (λ c. search rules)
    (λ c. search rules)
    (λ c. (search transaction_runs, search transaction_closes)))

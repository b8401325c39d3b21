use borrow.Author.Rules.{rules}
use Rattle.run_message.proofs.ServeLaws.{acks_drop, acks_end}
use Rattle.run_message.proofs.run_acks.Statement.{statement}
use Rattle.run_message.proofs.run_acks.Tie as tie

pub run_acks_spec : {M : Type 1} → statement M
run_acks_spec =
    tie.close
    (tie.spec
    (λ c κs. search rules)
    (λ c κs. search rules)
    (λ c κs. search rules)
    (λ c. search rules)
    (λ c. (search acks_drop, search acks_end)))

use borrow.Author.Rules.{rules}
use Rattle.run_message.proofs.ServeLaws.{part_acked, part_ack_end, part_served, part_end_lem}
use Rattle.run_message.proofs.run_part.Statement.{statement}
use Rattle.run_message.proofs.run_part.Tie as tie

pub run_part_spec : {M : Type 1} → statement M
run_part_spec =
    tie.close
    (tie.spec
    (λ c κs. search rules)
    (λ c κs. search rules)
    (λ c. search rules)
    (λ c. search rules)
    (λ c. (search part_acked, search part_ack_end))
    (λ c κs. search rules)
    (λ c. search rules)
    (λ c. search rules)
    (λ c. search rules)
    (λ c. search rules)
    (λ c. search rules)
    (λ c. (search part_served, search part_end_lem)))

use borrow.Author.Rules.{rules}
use Rattle.base.specs.Lists.{part}
use Rattle.run_message.proofs.SenderLaws.{sender_short, header_is}
use Rattle.run_message.proofs.ServeLaws.{here_served}
use Rattle.run_message.proofs.run_read.Statement.{statement}
use Rattle.run_message.proofs.run_read.Tie as tie

pub run_read_spec : {M : Type 1} → statement M
run_read_spec =
    tie.close
    (tie.spec
    (λ c κs. search rules)
    (λ c κs. search rules)
    (λ c κs. search rules)
    (λ c. search rules)
    (λ c. search rules)
    (λ c. search rules)
    (λ c κs. (search header_is, unfold part in search sender_short, search rules))
    (λ c. search rules)
    (λ c. search rules)
    (λ c. search rules)
    (λ c. search rules)
    (λ c. search rules)
    (λ c. unfold part in search here_served))

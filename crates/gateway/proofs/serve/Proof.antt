use borrow.Author.Rules.{rules}
use Rattle.gateway.proofs.CallLaws.{header_last, no_reply}
use Rattle.gateway.proofs.serve.Statement.{statement}
use Rattle.gateway.proofs.serve.Tie as tie

pub serve_spec : {M : Type 1} → statement M
serve_spec =
    tie.close
    (tie.spec
    (λ c. search rules)
    (λ c κs. search rules)
    (λ c κs. search rules)
    (λ c. search rules)
    (λ c. search rules)
    (λ c. search rules)
    (λ c. search rules)
    (λ c. search rules)
    (λ c. search header_last)
    (λ c. search rules)
    (λ c. search rules)
    (λ c. search rules)
    (λ c. search rules)
    (λ c. search rules)
    (λ c. search no_reply))

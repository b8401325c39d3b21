use Rattle.gateway.proofs.CallLaws.{unfit_lines, fitted_by}
use borrow.Author.Rules.{rules}
use Rattle.gateway.proofs.answer.Statement.{statement}
use Rattle.gateway.proofs.answer.Tie as tie

pub answer_spec : {M : Type 1} → statement M
answer_spec =
    tie.close
    (tie.spec
    (λ c κs. search rules)
    (λ c κs. search fitted_by)
    (λ c. search rules)
    (λ c. search rules)
    (λ c. search rules)
    (λ c. search rules)
    (λ c. search rules)
    (λ c. search rules)
    (λ c. search unfit_lines))

use Rattle.cordafina.proofs.FaceLaws.{packs}
use borrow.Author.Rules.{rules}
use Rattle.cordafina.proofs.cordafina_answer.Statement.{statement}
use Rattle.cordafina.proofs.cordafina_answer.Tie as tie

pub cordafina_answer_spec : {M : Type 1} → statement M
cordafina_answer_spec =
    tie.close
    (tie.spec
    (λ c κs. search rules)
    (λ c κs. search rules)
    (λ c. search rules)
    (λ c. search rules)
    (λ c. search rules)
    (λ c. search rules)
    (λ c. search rules)
    (λ c. search packs))

use Rattle.cordafina.proofs.ContextLaws.{refused_8, fitted_by}
use borrow.Author.Rules.{rules}
use Rattle.cordafina.proofs.contexts.cordafina_contexts.Statement.{statement}
use Rattle.cordafina.proofs.contexts.cordafina_contexts.Tie as tie

pub cordafina_contexts_spec : {M : Type 1} → statement M
cordafina_contexts_spec =
    tie.close
    (tie.spec
    (λ c κs. search rules)
    (λ c κs. search fitted_by)
    (λ c. search rules)
    (λ c. search rules)
    (λ c. search rules)
    (λ c. search refused_8))

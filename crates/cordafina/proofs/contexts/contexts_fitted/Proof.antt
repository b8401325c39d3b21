use Rattle.cordafina.proofs.ContextLaws.{refused_11, refused_2_size, refused_2, is_written, some_lines}
use borrow.Author.Rules.{rules}
use Rattle.cordafina.proofs.contexts.contexts_fitted.Statement.{statement}
use Rattle.cordafina.proofs.contexts.contexts_fitted.Tie as tie

pub contexts_fitted_spec : {M : Type 1} → statement M
contexts_fitted_spec =
    tie.close
    (tie.spec
    (λ c. search rules)
    (λ c. search refused_11)
    (λ c κs. search rules)
    (λ c. search rules)
    (λ c. search refused_2_size)
    (λ c κs. search rules)
    (λ c κs. search (some_lines, rules))
    (λ c. search rules)
    (λ c. search is_written)
    (λ c. search rules)
    (λ c. search refused_2))

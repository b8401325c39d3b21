use borrow.Author.Rules.{rules}
use native.Mathlib.Omega.{arith}
use Rattle.keywords.proofs.PageLaws.{quad_packs}
use Rattle.keywords.proofs.quad.Statement.{statement}
use Rattle.keywords.proofs.quad.Tie as tie

pub quad_spec : {M : Type 1} → statement M
quad_spec =
    tie.close
    (tie.spec
    (λ c κs. search rules)
    (λ c. search rules)
    (λ c κs. search rules)
    (λ c. search rules)
    (λ c. search rules)
    (λ c. search quad_packs))

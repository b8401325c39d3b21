use borrow.Author.Rules.{rules}
use native.Mathlib.Omega.{arith}
use Rattle.keywords.proofs.PageLaws.{front_2, front_4, front_8}
use Rattle.keywords.proofs.front.Statement.{statement}
use Rattle.keywords.proofs.front.Tie as tie

pub front_spec : {M : Type 1} → statement M
front_spec =
    tie.close
    (tie.spec
    (λ c κs. search rules)
    (λ c κs. search rules)
    (λ c. search front_2)
    (λ c κs. search rules)
    (λ c κs. search rules)
    (λ c. search front_4)
    (λ c κs. search rules)
    (λ c κs. search rules)
    (λ c. search front_8))

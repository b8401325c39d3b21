use borrow.Author.Rules.{rules}
use native.Mathlib.Omega.{arith}
use Rattle.keywords.proofs.PageLaws.{back_2, back_4, back_8}
use Rattle.keywords.proofs.back.Statement.{statement}
use Rattle.keywords.proofs.back.Tie as tie

pub back_spec : {M : Type 1} → statement M
back_spec =
    tie.close
    (tie.spec
    (λ c. search rules)
    (λ c κs. search rules)
    (λ c κs. search rules)
    (λ c. search back_2)
    (λ c. search rules)
    (λ c κs. search rules)
    (λ c κs. search rules)
    (λ c. search back_4)
    (λ c. search rules)
    (λ c κs. search rules)
    (λ c κs. search rules)
    (λ c. search back_8))

use borrow.Author.Rules.{rules}
use native.Mathlib.Omega.{arith}
use Rattle.keywords.proofs.PageLaws.{middle_none, middle_8}
use Rattle.keywords.proofs.middle.Statement.{statement}
use Rattle.keywords.proofs.middle.Tie as tie

pub middle_spec : {M : Type 1} → statement M
middle_spec =
    tie.close
    (tie.spec
    (λ c. search middle_none)
    (λ c κs. search rules)
    (λ c κs. search rules)
    (λ c. search middle_8))

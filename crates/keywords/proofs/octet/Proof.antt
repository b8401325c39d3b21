use borrow.Author.Rules.{rules}
use native.Mathlib.Omega.{arith}
use Rattle.keywords.proofs.PageLaws.{octet_packs}
use Rattle.keywords.proofs.octet.Statement.{statement}
use Rattle.keywords.proofs.octet.Tie as tie

pub octet_spec : {M : Type 1} → statement M
octet_spec =
    tie.close
    (tie.spec
    (λ c κs. search rules)
    (λ c. search rules)
    (λ c κs. search rules)
    (λ c. search rules)
    (λ c. search rules)
    (λ c. search octet_packs))

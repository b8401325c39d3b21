use borrow.Author.Rules.{rules}
use Rattle.keywords.proofs.RowLaws.{long_fits, long_formed, long_is}
use Rattle.keywords.proofs.rows.is_long.Statement.{statement}
use Rattle.keywords.proofs.rows.is_long.Tie as tie

pub is_long_spec : {M : Type 1} → statement M
is_long_spec =
    tie.close
    (tie.spec
    (λ c κs. search rules)
    (λ c. search rules)
    (λ c. search rules)
    (λ c. search long_fits)
    (λ c κs. search long_formed)
    (λ c. search long_is))

use borrow.Author.Rules.{rules}
use Rattle.keywords.proofs.RowLaws.{either_is}
use Rattle.keywords.proofs.rows.is_either.Statement.{statement}
use Rattle.keywords.proofs.rows.is_either.Tie as tie

pub is_either_spec : {M : Type 1} → statement M
is_either_spec =
    tie.close
    (tie.spec
    (λ c κs. search rules)
    (λ c κs. search rules)
    (λ c. search either_is))

use borrow.Author.Rules.{rules}
use Rattle.keywords.proofs.RowLaws.{of_row}
use Rattle.keywords.proofs.rows.of.Statement.{statement}
use Rattle.keywords.proofs.rows.of.Tie as tie

pub of_spec : {M : Type 1} → statement M
of_spec =
    tie.close
    (tie.spec
    (λ c κs. search rules)
    (λ c. search of_row))

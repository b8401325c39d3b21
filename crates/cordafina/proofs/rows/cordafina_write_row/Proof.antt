use Rattle.cordafina.proofs.RowLaws.{row_written}
use borrow.Author.Rules.{rules}
use Rattle.cordafina.proofs.rows.cordafina_write_row.Statement.{statement}
use Rattle.cordafina.proofs.rows.cordafina_write_row.Tie as tie

pub cordafina_write_row_spec : {M : Type 1} → statement M
cordafina_write_row_spec =
    tie.close
    (tie.spec
    (λ c κs. search rules)
    (λ c κs. search rules)
    (λ c. search rules)
    (λ c. search row_written))

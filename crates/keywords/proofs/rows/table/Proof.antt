use borrow.Author.Rules.{rules}
use mathlib.Core.Path.{refl}
use Rattle.megaco.specs.Keywords.{forms_of}
use Rattle.keywords.specs.Page.{row_of, rows_of, long_of, short_of, padded}
use Rattle.keywords.proofs.rows.table.Statement.{statement}
use Rattle.keywords.proofs.rows.table.Tie as tie

pub table_spec : {M : Type 1} → statement M
unfolding row_of rows_of long_of short_of padded forms_of
table_spec =
    tie.close
    (tie.spec
    (λ c. refl))

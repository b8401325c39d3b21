use borrow.Author.Rules.{rules}
use Rattle.keywords.proofs.RowLaws.{short_fits, short_formed, short_is}
use Rattle.keywords.proofs.rows.is_short.Statement.{statement}
use Rattle.keywords.proofs.rows.is_short.Tie as tie

pub is_short_spec : {M : Type 1} → statement M
is_short_spec =
    tie.close
    (tie.spec
    (λ c κs. search rules)
    (λ c. search rules)
    (λ c. search rules)
    (λ c. search short_fits)
    (λ c κs. search short_formed)
    (λ c. search short_is))

use borrow.Author.Rules.{rules}
use Rattle.attempt.proofs.ChangeLaws.{state_fits_lem, update_fits, update_by}
use Rattle.attempt.proofs.update.Statement.{statement}
use Rattle.attempt.proofs.update.Tie as tie

pub update_spec : {M : Type 1} → statement M
update_spec =
    tie.close
    (tie.spec
    (λ c κs. search rules)
    (λ c κs. search rules)
    (λ c. search state_fits_lem)
    (λ c. search update_fits)
    (λ c. search update_by))

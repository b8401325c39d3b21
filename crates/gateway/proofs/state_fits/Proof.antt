use Rattle.gateway.proofs.CallLaws.{state_fits_lem, wrong_size}
use borrow.Author.Rules.{rules}
use Rattle.gateway.proofs.state_fits.Statement.{statement}
use Rattle.gateway.proofs.state_fits.Tie as tie

pub state_fits_spec : {M : Type 1} → statement M
state_fits_spec =
    tie.close
    (tie.spec
    (λ c κs. search rules)
    (λ c κs. search rules)
    (λ c κs. search rules)
    (λ c. search state_fits_lem)
    (λ c. search wrong_size))

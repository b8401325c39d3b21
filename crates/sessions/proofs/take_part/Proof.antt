use borrow.Author.Rules.{rules}
use Rattle.sessions.proofs.LineLaws.{part_none, end_within, part_put}
use Rattle.sessions.proofs.take_part.Statement.{statement}
use Rattle.sessions.proofs.take_part.Tie as tie

pub take_part_spec : {M : Type 1} → statement M
take_part_spec =
    tie.close
    (tie.spec
    (λ c. search part_none)
    (λ c κs. search rules)
    (λ c. search rules)
    (λ c. search rules)
    (λ c. search end_within)
    (λ c κs. search rules)
    (λ c. search rules)
    (λ c. search part_put))

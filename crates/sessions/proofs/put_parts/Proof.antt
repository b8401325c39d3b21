use borrow.Author.Rules.{rules}
use Rattle.sessions.proofs.PartLaws.{parts_are}
use Rattle.sessions.proofs.put_parts.Statement.{statement}
use Rattle.sessions.proofs.put_parts.Tie as tie

pub put_parts_spec : {M : Type 1} → statement M
put_parts_spec =
    tie.close
    (tie.spec
    (λ c κs. search rules)
    (λ c κs. search rules)
    (λ c κs. search rules)
    (λ c. search rules)
    (λ c. search parts_are))

use borrow.Author.Rules.{rules}
use Rattle.keywords.specs.Page.{alike}
use Rattle.keywords.proofs.is_alike.Statement.{statement}
use Rattle.keywords.proofs.is_alike.Tie as tie

pub is_alike_spec : {M : Type 1} → statement M
is_alike_spec =
    tie.close
    (tie.spec
    (λ c κs. search rules)
    (λ c κs. search rules)
    (λ c κs. search rules)
    (λ c κs. search rules)
    (λ c κs. search rules)
    (λ c κs. search rules)
    (λ c.
    unfold alike in
    let d = c.before in
    rw (d.front.ensures, d.front-2.ensures, d.middle.ensures, c.middle-2.ensures, c.back.ensures, c.back-2.ensures)))

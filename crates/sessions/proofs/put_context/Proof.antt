use borrow.Author.Rules.{rules}
use borrow.Author.Tests.{eq-eqb, ne_eqb}
use Rattle.sessions.specs.Listing.{context_line}
use Rattle.base.proofs.OutLaws.{chosen_yes, chosen_no, none, four}
use Rattle.sessions.proofs.put_context.Statement.{statement}
use Rattle.sessions.proofs.put_context.Tie as tie

pub put_context_spec : {M : Type 1} → statement M
put_context_spec =
    tie.close
    (tie.spec
    (λ c. unfold context_line in search (chosen_yes, none, eq-eqb))
    (λ c κs. search rules)
    (λ c κs. search rules)
    (λ c κs. search rules)
    (λ c κs. search rules)
    (λ c. search rules)
    (λ c. unfold context_line in search (chosen_no, four, ne_eqb)))

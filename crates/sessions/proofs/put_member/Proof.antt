use borrow.Author.Rules.{rules}
use borrow.Author.Tests.{eq-eqb, ne_eqb}
use Rattle.sessions.specs.Listing.{member_text}
use Rattle.base.proofs.OutLaws.{chosen_yes, chosen_no, after, none}
use Rattle.sessions.proofs.put_member.Statement.{statement}
use Rattle.sessions.proofs.put_member.Tie as tie

pub put_member_spec : {M : Type 1} → statement M
put_member_spec =
    tie.close
    (tie.spec
    (λ c κs. search rules)
    (λ c κs. search rules)
    (λ c. search rules)
    (λ c. unfold member_text in search (chosen_yes, after, eq-eqb))
    (λ c. unfold member_text in search (chosen_no, none, ne_eqb)))

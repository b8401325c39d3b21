use Rattle.texts.proofs.SeekLaws.{the_name, the_name_place}
use borrow.Author.Rules.{rules}
use Rattle.texts.proofs.name.Statement.{statement}
use Rattle.texts.proofs.name.Tie as tie

pub name_spec : {M : Type 1} → statement M
name_spec =
    tie.close
    (tie.spec
    (λ c κs. search rules)
    (λ c κs. search rules)
    (λ c. search rules)
    (λ c. search rules)
    (λ c. search rules)
    (λ c. (search the_name, search the_name_place)))

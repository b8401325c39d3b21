use Rattle.texts.proofs.SeekLaws.{the_text, the_text_place}
use borrow.Author.Rules.{rules}
use Rattle.texts.proofs.text.Statement.{statement}
use Rattle.texts.proofs.text.Tie as tie

pub text_spec : {M : Type 1} → statement M
text_spec =
    tie.close
    (tie.spec
    (λ c κs. search rules)
    (λ c κs. search rules)
    (λ c. search rules)
    (λ c. search rules)
    (λ c. search rules)
    (λ c. (search the_text, search the_text_place)))

use borrow.Author.Rules.{rules}
use mathlib.Core.Path.{refl}
use mathlib.Core.List.{[], ◌∷◌}
use Rattle.base.specs.Pick.{pick}
use Rattle.base.specs.Lists.{has}
use Rattle.keywords.specs.Page.{spellings_of}
use Rattle.keywords.proofs.RowLaws.{at_length, lengths_in, no_length}
use Rattle.keywords.proofs.rows.meaning_of.Statement.{statement}
use Rattle.keywords.proofs.rows.meaning_of.Tie as tie

pub meaning_of_spec : {M : Type 1} → statement M
meaning_of_spec =
    tie.close
    (tie.spec
    (λ c κs. search rules)
    (λ c. search at_length)
    (λ c κs. search rules)
    (λ c. search at_length)
    (λ c κs. search rules)
    (λ c. search at_length)
    (λ c κs. search rules)
    (λ c. search at_length)
    (λ c κs. search rules)
    (λ c. search at_length)
    (λ c κs. search rules)
    (λ c. search at_length)
    (λ c κs. search rules)
    (λ c. search at_length)
    (λ c κs. search rules)
    (λ c. search at_length)
    (λ c κs. search rules)
    (λ c. search at_length)
    (λ c κs. search rules)
    (λ c. search at_length)
    (λ c κs. search rules)
    (λ c. search at_length)
    (λ c κs. search rules)
    (λ c. search at_length)
    (λ c κs. search rules)
    (λ c. search at_length)
    (λ c κs. search rules)
    (λ c. search at_length)
    (λ c κs. search rules)
    (λ c. search at_length)
    (λ c. no_length (1 ∷ 2 ∷ 3 ∷ 4 ∷ 5 ∷ 6 ∷ 7 ∷ 8 ∷ 9 ∷ 10 ∷ 11 ∷ 12 ∷ 13 ∷ 16 ∷ 22 ∷ []) _ (unfold lengths_in spellings_of has pick in refl) (c.if-n-eq1.false, (c.if-n-eq2.false, (c.if-n-eq3.false, (c.if-n-eq4.false, (c.if-n-eq5.false, (c.if-n-eq6.false, (c.if-n-eq7.false, (c.if-n-eq8.false, (c.if-n-eq9.false, (c.if-n-eq10.false, (c.if-n-eq11.false, (c.if-n-eq12.false, (c.if-n-eq13.false, (c.if-n-eq16.false, (c.if-n-eq22.false, tt)))))))))))))))))

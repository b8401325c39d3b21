use borrow.Author.Rules.{rules}
use mathlib.Core.Path.{refl}
use Rattle.base.specs.Pick.{pick_yes_by, pick_no_by}
use Rattle.megaco.specs.Keywords.{forms_of}
use Rattle.keywords.specs.Page.{token_at, long_of, short_of, token_of}
use Rattle.keywords.proofs.LengthLaws.{letters_2_from_10_is}
use Rattle.keywords.proofs.rows.letters_2_from_10.Statement.{statement}
use Rattle.keywords.proofs.rows.letters_2_from_10.Tie as tie

pub letters_2_from_10_spec : {M : Type 1} → statement M
letters_2_from_10_spec =
    tie.close
    (tie.spec
    (λ c κs. unfold token_at forms_of short_of in refl)
    (λ c κs. search rules)
    (λ c. rw (letters_2_from_10_is _) (search (pick_yes_by, pick_no_by) depth 20))
    (λ c κs. unfold token_at forms_of short_of in refl)
    (λ c κs. search rules)
    (λ c. rw (letters_2_from_10_is _) (search (pick_yes_by, pick_no_by) depth 20))
    (λ c κs. unfold token_at forms_of short_of in refl)
    (λ c κs. search rules)
    (λ c. rw (letters_2_from_10_is _) (search (pick_yes_by, pick_no_by) depth 20))
    (λ c κs. unfold token_at forms_of short_of in refl)
    (λ c κs. search rules)
    (λ c. rw (letters_2_from_10_is _) (search (pick_yes_by, pick_no_by) depth 20))
    (λ c κs. unfold token_at forms_of short_of in refl)
    (λ c κs. search rules)
    (λ c. rw (letters_2_from_10_is _) (search (pick_yes_by, pick_no_by) depth 20))
    (λ c κs. search rules)
    (λ c. rw (letters_2_from_10_is _) (search (pick_yes_by, pick_no_by) depth 20)))

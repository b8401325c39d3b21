use Rattle.row.proofs.WordLaws.{sound_rest, sound_size}
use borrow.Author.Rules.{rules}
use Rattle.row.proofs.words.is_sound_of.Statement.{statement}
use Rattle.row.proofs.words.is_sound_of.Tie as tie

pub is_sound_of_spec : {M : Type 1} → statement M
is_sound_of_spec =
    tie.close
    (tie.spec
    (λ c κs. search rules)
    (λ c κs. search rules)
    (λ c. search sound_rest)
    (λ c. search sound_size))

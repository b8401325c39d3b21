use borrow.Author.Rules.{rules}
use Rattle.base.specs.Lists.{part}
use Rattle.read_command.proofs.ItemLaws.{speech_read, speech_other, read_ahead, read_within}
use Rattle.read_command.proofs.speech_from.Statement.{statement}
use Rattle.read_command.proofs.speech_from.Tie as tie

pub speech_from_spec : {M : Type 1} → statement M
speech_from_spec =
    tie.close
    (tie.spec
    (λ c. search read_ahead)
    (λ c. search read_ahead)
    (λ c. search read_within)
    (λ c κs. search rules)
    (λ c κs. search rules)
    (λ c κs. search rules)
    (λ c. unfold part in search speech_read)
    (λ c. unfold part in search speech_other))

use borrow.Author.Rules.{rules}
use Rattle.megaco.specs.Attempt.{room_checks}
use Rattle.attempt.proofs.JudgeLaws.{tests, by_call}
use Rattle.attempt.proofs.judge_room.Statement.{statement}
use Rattle.attempt.proofs.judge_room.Tie as tie

pub judge_room_spec : {M : Type 1} → statement M
judge_room_spec =
    tie.close
    (tie.spec
    (λ c κs. search rules)
    (λ c. unfold room_checks in search (tests, by_call))
    (λ c. unfold room_checks in search (tests, by_call))
    (λ c. unfold room_checks in search (tests, by_call)))

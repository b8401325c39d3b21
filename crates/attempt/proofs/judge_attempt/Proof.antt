use Rattle.attempt.proofs.JudgeLaws.{test_add, test_modify, test_subtract, test_move, test_audit, tests}
use borrow.Author.Rules.{rules}
use Rattle.attempt.proofs.judge_attempt.Statement.{statement}
use Rattle.attempt.proofs.judge_attempt.Tie as tie

pub judge_attempt_spec : {M : Type 1} → statement M
judge_attempt_spec =
    tie.close
    (tie.spec
    (λ c κs. search rules)
    (λ c. search rules)
    (λ c. search (test_add, tests))
    (λ c κs. search rules)
    (λ c. search (test_add, tests))
    (λ c κs. search rules)
    (λ c. search rules)
    (λ c. search (test_modify, tests))
    (λ c κs. search rules)
    (λ c. search (test_modify, tests))
    (λ c. search rules)
    (λ c. search (test_subtract, tests))
    (λ c. search rules)
    (λ c. search (test_move, tests))
    (λ c. search (test_move, tests))
    (λ c. search (test_move, tests))
    (λ c κs. search rules)
    (λ c. search (test_move, tests) depth 7)
    (λ c κs. search rules)
    (λ c. search rules)
    (λ c. search (test_audit, tests))
    (λ c. search (test_add, tests))
    (λ c. search (test_modify, tests))
    (λ c. search (test_subtract, tests))
    (λ c. search (test_move, tests) depth 7)
    (λ c. search (test_audit, tests)))

use Rattle.row.proofs.WordLaws.{map_worked}
use borrow.Author.Rules.{rules}
use Rattle.row.proofs.words.work_out_map.Statement.{statement}
use Rattle.row.proofs.words.work_out_map.Tie as tie

pub work_out_map_spec : {M : Type 1} → statement M
work_out_map_spec =
    tie.close
    (tie.spec
    (λ c κs. search rules)
    (λ c. search rules)
    (λ c. search rules)
    (λ c. search rules)
    (λ c. search rules)
    (λ c. search rules)
    (λ c κs. search rules)
    (λ c. search rules)
    (λ c. search rules)
    (λ c. search rules)
    (λ c. search rules)
    (λ c. search rules)
    (λ c. search rules)
    (λ c κs. search rules)
    (λ c κs. search rules)
    (λ c κs. search rules)
    (λ c. search rules)
    (λ c κs. search rules)
    (λ c. search rules)
    (λ c. search map_worked))

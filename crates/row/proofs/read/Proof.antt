use Rattle.groups.proofs.TakeLaws.{bytes}
use Rattle.groups.specs.Rows.{Bytes}
use borrow.Author.Tests.{not-true, not-false}
use Rattle.row.proofs.AnswerLaws.{count_lines, read_count, read_size, read_none, read_row}
use borrow.Author.Rules.{rules}
use Rattle.row.proofs.read.Statement.{statement}
use Rattle.row.proofs.read.Tie as tie

pub read_spec : {M : Type 1} → statement M
read_spec =
    tie.close
    (tie.spec
    (λ c κs. search rules)
    (λ c. search (read_count, not-true))
    (λ c κs. search rules)
    (λ c. search (read_size, not-false))
    (λ c κs. (search (count_lines, not-false), search rules))
    (λ c. search rules)
    (λ c. let b : Bytes c.args.row.now = bytes _ c.shared_slice_known-1.given in search (read_row, not-false))
    (λ c. search rules)
    (λ c. search (read_none, not-false)))

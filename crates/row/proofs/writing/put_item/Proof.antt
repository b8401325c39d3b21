use borrow.Author.Rules.{rules}
use Rattle.row.proofs.PutLaws.{word_put, side_put}
use Rattle.row_laws.proofs.ItemLaws.{side_small}
use Rattle.row.proofs.writing.put_item.Statement.{statement}
use Rattle.row.proofs.writing.put_item.Tie as tie

pub put_item_spec : {M : Type 1} → statement M
put_item_spec =
    tie.close
    (tie.spec
    (λ c κs. search rules)
    (λ c. search rules)
    (λ c κs. search rules)
    (λ c κs. search rules)
    (λ c. search rules)
    (λ c κs. search side_small)
    (λ c. search rules)
    (λ c. search word_put)
    (λ c. search rules)
    (λ c. search side_put))

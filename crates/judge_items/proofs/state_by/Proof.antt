use borrow.Author.Rules.{rules}
use Prim.Native.Nat.{ℕ}
use mathlib.Core.List.{List, [], ◌∷◌}
use Rattle.megaco.specs.Keywords.{is_token}
use Rattle.protocol.specs.Types.{InSvcToken, OutOfSvcToken, TestToken}
use Rattle.megaco.proofs.Meanings.{others, other}
use Rattle.base.specs.Pick.{pick}
use Rattle.judge_items.specs.Judging.{state_by}
use Rattle.judge_items.proofs.state_by.Statement.{statement}
use Rattle.judge_items.proofs.state_by.Tie as tie

abbrev rest : List ℕ
rest = others (InSvcToken ∷ OutOfSvcToken ∷ TestToken ∷ [])

pub state_by_spec : {M : Type 1} → statement M
state_by_spec =
    tie.close
    (tie.spec
    (λ c. search rules)
    (λ c. search rules)
    (λ c. search rules)
    (λ c. unfold state_by pick is_token in rw c.in-InSvcToken.is)
    (λ c. unfold state_by pick is_token in rw c.in-OutOfSvcToken.is)
    (λ c. unfold state_by pick is_token in rw c.in-TestToken.is)
    (λ c. unfold state_by pick in rw (other rest InSvcToken c.args.k (search rules) tt, other rest OutOfSvcToken c.args.k (search rules) tt, other rest TestToken c.args.k (search rules) tt)))

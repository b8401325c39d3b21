use borrow.Author.Rules.{rules}
use Prim.Native.Nat.{ℕ}
use mathlib.Core.List.{List, [], ◌∷◌}
use Rattle.megaco.specs.Keywords.{is_token}
use Rattle.protocol.specs.Types.{InactiveToken, SendonlyToken, RecvonlyToken, SendrecvToken, LoopbackToken}
use Rattle.megaco.proofs.Meanings.{others, other}
use Rattle.base.specs.Pick.{pick}
use Rattle.judge_items.specs.Judging.{mode_by}
use Rattle.judge_items.proofs.mode_by.Statement.{statement}
use Rattle.judge_items.proofs.mode_by.Tie as tie

abbrev rest : List ℕ
rest = others (InactiveToken ∷ SendonlyToken ∷ RecvonlyToken ∷ SendrecvToken ∷ LoopbackToken ∷ [])

pub mode_by_spec : {M : Type 1} → statement M
mode_by_spec =
    tie.close
    (tie.spec
    (λ c. search rules)
    (λ c. search rules)
    (λ c. search rules)
    (λ c. search rules)
    (λ c. search rules)
    (λ c. unfold mode_by pick is_token in rw c.in-InactiveToken.is)
    (λ c. unfold mode_by pick is_token in rw c.in-SendonlyToken.is)
    (λ c. unfold mode_by pick is_token in rw c.in-RecvonlyToken.is)
    (λ c. unfold mode_by pick is_token in rw c.in-SendrecvToken.is)
    (λ c. unfold mode_by pick is_token in rw c.in-LoopbackToken.is)
    (λ c. unfold mode_by pick in rw (other rest InactiveToken c.args.k (search rules) tt, other rest SendonlyToken c.args.k (search rules) tt, other rest RecvonlyToken c.args.k (search rules) tt, other rest SendrecvToken c.args.k (search rules) tt, other rest LoopbackToken c.args.k (search rules) tt)))

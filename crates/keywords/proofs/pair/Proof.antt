use borrow.Author.Rules.{rules}
use native.Mathlib.Omega.{arith}
use Rattle.keywords.proofs.PageLaws.{pair_packs}
use Rattle.keywords.proofs.pair.Statement.{statement}
use Rattle.keywords.proofs.pair.Tie as tie

pub pair_spec : {M : Type 1} → statement M
pair_spec =
    tie.close
    (tie.spec
    (λ c. search rules)
    (λ c κs. search rules)
    (λ c. search rules)
    (λ c. search rules)
    (λ c κs. search rules)
    (λ c. omega (arith, c.wide-2.ensures.1))
    (λ c. omega (arith, c.wide-2.ensures.1, c.wide.ensures.1))
    (λ c. pair_packs _ _ _ _ (search rules) c.wide.ensures.0 c.wide-2.ensures.0 c.wide.ensures.1 c.wide-2.ensures.1))

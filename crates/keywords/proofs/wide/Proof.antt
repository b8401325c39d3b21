use borrow.Author.Rules.{rules}
use native.Mathlib.Omega.{arith}
use mathlib.Core.Path.{refl}
use Rattle.keywords.proofs.wide.Statement.{statement}
use Rattle.keywords.proofs.wide.Tie as tie

pub wide_spec : {M : Type 1} → statement M
wide_spec =
    tie.close
    (tie.spec
    (λ c. (refl, omega arith)))

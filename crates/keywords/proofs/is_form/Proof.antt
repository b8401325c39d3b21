use borrow.Author.Rules.{rules}
use native.Mathlib.Omega.{arith}
use Rattle.text.proofs.WordLaws.{unequal}
use Rattle.keywords.proofs.PageLaws.{alike_same, one_same}
use Rattle.keywords.proofs.is_form.Statement.{statement}
use Rattle.keywords.proofs.is_form.Tie as tie

pub is_form_spec : {M : Type 1} → statement M
is_form_spec =
    tie.close
    (tie.spec
    (λ c. search unequal)
    (λ c. search rules)
    (λ c. search rules)
    (λ c κs. search rules)
    (λ c. search one_same)
    (λ c κs. search rules)
    (λ c. let d = c.before in alike_same d.args.w.now d.args.f.now _ (λ i. omega (arith, c.shared_slice_known-1.given i)) (search rules) (search rules) (search rules) c.is_alike.ensures))

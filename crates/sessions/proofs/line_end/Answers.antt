use Rattle.std.proofs.Common.{rules, tests, arith, ◌≡◌, ◌∙◌, ◌+◌, ap, drop, length, nat_eq, Option, ℕ}
use Rattle.std.proofs.lemmas.Grind.{common_steps}
use Rattle.std.specs.Option.{unwrap_or}
use Rattle.std.proofs.lemmas.Iterator.{YieldsList-from_slice}
use Rattle.std.proofs.lemmas.Iterator.Search.{position_from_yields_List}
use Rattle.base.specs.Lists.{before}
use Rattle.sessions.specs.Lines.{line_end}
use Rattle.sessions.proofs.LineLaws.{ends_at}
use Rattle.sessions.proofs.line_end.Goals as goal

pub returns : goal.returns
returns c =
    let d : c.unwrap_or-rest.result.now ≡ drop c.args.from c.args.chunk.now = grind (arith, common_steps) in
    let p : c.unwrap_or.result ≡ length (before line_end c.unwrap_or-rest.result.now) =
    c.unwrap_or.ensures
    ∙ ap (λ (o : Option ℕ). unwrap_or o (length c.unwrap_or-rest.result.now)) (position_from_yields_List (λ x. nat_eq x line_end) _ _ _ c.position.ensures.ran (YieldsList-from_slice c.unwrap_or-rest.result.now cc) (λ x b q k. search (rules, tests)))
    ∙ ends_at c.unwrap_or-rest.result.now in
    ap (λ (n : ℕ). c.args.from + n) (p ∙ rw d)

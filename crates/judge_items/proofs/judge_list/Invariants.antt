use Rattle.std.proofs.Common.{◌≡◌, ◌<◌, ◌+◌, ◌^◌, ℕ, ◌-◌, length}
use Rattle.std.specs.declared.result.Result.{Result}
use Rattle.protocol.specs.Types.{Values}
use Rattle.judge_items.specs.declared.Reached.{Reached}
use Rattle.judge_items.specs.Judging.{judge_list}
use Rattle.judge_items.proofs.judge_list.Given as goal

-- what is left of the list from here is judged as the list
abbrev pub invariant-loop-n : goal.invariant-loop-n
invariant-loop-n g l =
    (l.i < 2 ^ 64)
    × ((f : ℕ → g.row.S.Denot → Values → Result (Reached × g.row.S.Denot) ℕ) → ((i : ℕ) (st : g.row.S.Denot) (vs : Values) (r : Result (Reached × g.row.S.Denot) ℕ) → i < 2 ^ 64 → goal.F-post g l.one i st vs r → r ≡ f i st vs)
    → judge_list f l.s (length l.s + 1) l.at l.fn.stood l.fn.values ≡ judge_list f l.s (length l.s + 1 - l.n) l.i l.st l.vs)

use Rattle.std.proofs.Common.{◌≡◌, ◌<◌, ◌^◌, ℕ, ◌-◌, List}
use Rattle.read_command.specs.Production.{list_end}
use Rattle.texts.specs.declared.Holder.{Holder}
use Rattle.texts.specs.Texts.{Sought, sought, holders_in}
use Rattle.texts.proofs.list.Given as goal

-- what is found from here is what is found
abbrev pub invariant-loop-n : goal.invariant-loop-n
invariant-loop-n g l =
    (l.i < 2 ^ 64) × (l.left < 2 ^ 64)
    × ((one : ℕ → List Holder) → (end : ℕ → ℕ) → ((i k : ℕ) (r : Sought) → i < 2 ^ 64 → k < 2 ^ 64 → goal.F-post g l.part i k r → r ≡ sought (one i) (end i) k)
    → sought (holders_in one end l.s (l.most - l.n) l.i) (list_end end l.s (l.most - l.n) l.i) l.left ≡ sought (holders_in one end l.s l.most l.at) (list_end end l.s l.most l.at) l.k)

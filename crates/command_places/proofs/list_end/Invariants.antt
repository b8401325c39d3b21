use Rattle.std.proofs.Common.{◌≡◌, ◌<◌, ◌^◌, ℕ, ◌-◌}
use Rattle.read_command.specs.Production.{list_end}
use Rattle.command_places.proofs.list_end.Given as goal

-- the end of what is left of the list from here is the list's end
abbrev pub invariant-loop-n : goal.invariant-loop-n
invariant-loop-n g l = (l.i < 2 ^ 64) × ((one : ℕ → ℕ) → ((i r : ℕ) → i < 2 ^ 64 → goal.F-post g l.end i r → r ≡ one i) → list_end one l.s l.most l.at ≡ list_end one l.s (l.most - l.n) l.i)

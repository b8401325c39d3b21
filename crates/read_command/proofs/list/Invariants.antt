use Rattle.std.proofs.Common.{◌≡◌, ◌<◌, ◌^◌, ℕ, ◌-◌}
use Rattle.protocol.specs.Types.{Parsed}
use Rattle.read_command.specs.Production.{list_at}
use Rattle.read_command.proofs.list.Given as goal

-- what is left of the list from here is the list
abbrev pub invariant-loop-n : goal.invariant-loop-n
invariant-loop-n g l = (l.i < 2 ^ 64) × ((one : ℕ → Parsed) → ((i : ℕ) (r : Parsed) → i < 2 ^ 64 → goal.F-post g l.part i r → r ≡ one i) → list_at one l.s (l.most - l.n) l.i ≡ list_at one l.s l.most l.at)

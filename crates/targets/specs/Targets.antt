-- Whom a command's name means, a wildcard's matches being left to be noted.
use Rattle.std.specs.Prelude.{ℕ, ◌+◌, ◌-◌, Bool, false, List, [], ◌∷◌, eqb}
use Rattle.base.specs.Pick.{pick}
use Rattle.megaco.specs.Table.{fitted, ctx, get, line_terminations, exists, free_ephemeral}
use Rattle.megaco.specs.Command.{Targets, no_target, gateway, targets, match_targets, matches, is_add, in_place, is_null}
use Rattle.protocol.specs.Types.{Context, Op, Name, Termination, Root, Chosen, Unchosen, Wildcard, Unmatched, Unknown}
use Rattle.targets.specs.declared.Target.{Target}
use Rattle.targets.specs.declared.Target.TheVariants.{NoTarget, Gateway, One, Many}

-- "`ROOT`: 410 unless Modify", or AuditValue; "435 outside `-`; 447 with items"
unfoldable pub root_target : Op → Context → Bool → Target
root_target op at items = pick (in_place op) (pick (is_null at) (pick items (NoTarget 447) Gateway) (NoTarget 435)) (NoTarget 410)

-- "410 unless Add; `$` and `R/$` choose the lowest absent ephemeral, 432 if none"
unfoldable pub free_target : ℕ → Op → ℕ → Target
free_target lines op n = pick (is_add op) (pick (eqb n 0) (NoTarget 432) (One (line_terminations lines + (n - 1)))) (NoTarget 410)

-- "and 432 for other forms"
unfoldable pub unchosen_target : Op → Target
unchosen_target op = pick (is_add op) (NoTarget 432) (NoTarget 410)

-- "430 if no existing termination has that name"
unfoldable pub one_target : ℕ → ℕ → ℕ → Target
one_target lines i word = pick (exists lines i word) (One i) (NoTarget 430)

unfoldable pub target_of : Op → Context → Bool → Name → List ℕ → Target
target_of op at items (Termination i) t = one_target (fitted t) i (get t (ctx i))
target_of op at items Root t = root_target op at items
target_of op at items Chosen t = free_target (fitted t) op (free_ephemeral t)
target_of op at items Unchosen t = unchosen_target op
target_of op at items (Wildcard r) t = Many r
target_of op at items Unmatched t = NoTarget 431
target_of op at items Unknown t = NoTarget 430

-- whom a target means, a wildcard's matches being those of the table
unfoldable pub targets_in : Target → Op → Context → List ℕ → Targets
targets_in (NoTarget code) op at t = no_target code
targets_in Gateway op at t = gateway
targets_in (One i) op at t = targets false (i ∷ [])
targets_in (Many r) op at t = match_targets (matches op at r t)

-- The properties of an action: those that are no topology, and that topology is one of them.
use mathlib.Core.Path.{◌≡◌, refl, sym}
use mathlib.Core.Bool.{true}
use mathlib.Core.List.{List, [], ◌∷◌}
use Rattle.base.proofs.TestLaws.{clash}
use Rattle.megaco.specs.Tree.{Property}
use Rattle.megaco.specs.Topology.{any_topology}
use Rattle.megaco.specs.Action.{any_given}

-- where there is topology, a property is given
pub given_any : (ps : List Property) → any_topology ps ≡ true → any_given ps ≡ true
unfolding any_topology any_given
given_any [] e = absurd (clash (sym e))
given_any (p ∷ ps) e = refl

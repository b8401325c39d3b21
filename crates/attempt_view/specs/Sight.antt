-- A context as it is seen, with the place of a termination in it.
use Rattle.std.specs.Prelude.{ℕ, ◌≡◌, List}
use Rattle.megaco.specs.Table.{place_in}
use Rattle.megaco.specs.Attempt.{seen}
use Rattle.attempt_view.specs.declared.ContextSeen.{ContextSeen}

pub record SeesContext (c i : ℕ) (t : List ℕ) (r : ContextSeen) : Type 0 where
  pub context : r.seen ≡ seen c t
  pub order : r.place ≡ place_in c i t

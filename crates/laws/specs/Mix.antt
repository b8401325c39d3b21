-- Two transactions step by step, in any mixture that keeps each one's own order (document 02, CR 13).
use Rattle.std.specs.Prelude.{List, [], ◌∷◌}
use Rattle.megaco.specs.State.{State}
use Rattle.megaco.specs.Transaction.{Step, Progress, Course, course, step, steps, fresh}
use Rattle.megaco.specs.Tree.{Transaction, transaction}

-- the state, and how far each of the two has come
pub record Both : Type 0 where
  pub state : State
  pub one : Progress
  pub two : Progress

abbrev pub with_one : Course → Progress → Both
with_one x q = record { state = x.state; one = x.progress; two = q }

abbrev pub with_two : Progress → Course → Both
with_two p x = record { state = x.state; one = p; two = x.progress }

-- a step of the first, of the second
abbrev pub step_one : Step → Both → Both
step_one s b = with_one (step s (course b.state b.one)) b.two

abbrev pub step_two : Step → Both → Both
step_two s b = with_two b.one (step s (course b.state b.two))

-- "any mixture that keeps each one's own order": the next step is the first's next or the second's next, until both have none left
pub data Mixture : List Step → List Step → Type 0 where
  over : Mixture [] []
  first : {ss rs : List Step} (s : Step) → Mixture ss rs → Mixture (s ∷ ss) rs
  second : {ss rs : List Step} (r : Step) → Mixture ss rs → Mixture ss (r ∷ rs)

unfoldable pub mixed : {ss rs : List Step} → Mixture ss rs → Both → Both
mixed over b = b
mixed (first s z) b = mixed z (step_one s b)
mixed (second r z) b = mixed z (step_two r b)

-- the steps of a transaction, action starts counted
abbrev pub steps_of : Transaction → List Step
steps_of (transaction id acts) = steps acts

-- at the start neither has taken a step
abbrev pub both_fresh : State → Both
both_fresh st = record { state = st; one = fresh; two = fresh }

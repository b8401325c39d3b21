-- Running a transaction (document 01, 'Running'): a list of steps, action starts and commands.
use Rattle.std.specs.Prelude.{ℕ, Bool, true, false, List, [], ◌∷◌, ◌++◌}
use Rattle.base.specs.Pick.{pick}
use Rattle.megaco.specs.Tree.{Command, Property, Action, action, Transaction, transaction}
use Rattle.megaco.specs.State.{State, wrote}
use Rattle.megaco.specs.Topology.{triples_of, links_of}
use Rattle.megaco.specs.Reply.{Acted, transaction_text}
use Rattle.megaco.specs.Attempt.{seen, number_of}
use Rattle.megaco.specs.Command.{Outcome, run_command}
use Rattle.megaco.specs.Action.{Start, started}
use Rattle.megaco.specs.declared.Context.{Context}

-- ---- its steps: action starts, with the properties and whether they stand alone, and commands
pub data Step : Type 0 where
  start : Context → List Property → (alone : Bool) → Step
  command_step : Command → Step

unfoldable pub command_steps : List Command → List Step → List Step
command_steps [] rest = rest
command_steps (c ∷ cs) rest = command_step c ∷ command_steps cs rest

unfoldable pub no_commands : List Command → Bool
no_commands [] = true
no_commands (c ∷ cs) = false

unfoldable pub steps : List Action → List Step
steps [] = []
steps (action c ps cs ∷ acts) = start c ps (no_commands cs) ∷ command_steps cs (steps acts)

-- ---- how far it has come
-- how far a transaction has come: whether it goes on, and the actions that it started, the last one first
pub record Progress : Type 0 where
  pub going : Bool
  pub acts : List Acted

abbrev pub progress : Bool → List Acted → Progress
progress g acts = record { going = g; acts = acts }

-- a transaction that is being run
pub record Course : Type 0 where
  pub state : State
  pub progress : Progress

abbrev pub course : State → Progress → Course
course st p = record { state = st; progress = p }

-- ---- one step, all steps
unfoldable pub begin : Start → State → List Acted → Course
begin x st acts = course (wrote x.writes st) (progress x.going (x.acted ∷ acts))

-- the running action after a command of it
unfoldable pub advance : Outcome → Acted → List Acted → Course
advance x a acts = course x.state (progress x.going (record { at = x.at; given = a.given; said = a.said ++ x.reports } ∷ acts))

-- one step of a transaction that goes on; no command comes before the first action's start
unfoldable pub proceed : Step → State → List Acted → Course
proceed (start c ps alone) st acts =
    begin (started c ps alone (seen (number_of c) st.table) (links_of (number_of c) st.table (triples_of ps))) st acts
proceed (command_step c) st [] = course st (progress true [])
proceed (command_step c) st (a ∷ acts) = advance (run_command c a.given a.at st) a acts

-- a transaction that has stopped takes no more steps
unfoldable pub step : Step → Course → Course
step s x = let r = proceed s x.state x.progress.acts in pick x.progress.going r x

unfoldable pub run : List Step → Course → Course
run [] x = x
run (s ∷ ss) x = run ss (step s x)

abbrev pub fresh : Progress
fresh = progress true []

-- ---- a transaction
-- the state and the text that it leaves
pub record Ran : Type 0 where
  pub state : State
  pub text : List ℕ

abbrev pub ran : State → List ℕ → Ran
ran st x = record { state = st; text = x }

-- a transaction's state and its `P=id{..}`
unfoldable pub run_transaction : Transaction → State → Ran
run_transaction (transaction id acts) st = let x = run (steps acts) (course st fresh) in ran x.state (transaction_text id x.progress.acts)

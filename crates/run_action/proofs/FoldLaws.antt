-- The run by steps and the run in the code's order are one.
use Prim.Native.Nat.{ℕ}
use mathlib.Core.Path.{◌≡◌, refl, sym, ap, ◌∙◌}
use mathlib.Core.Bool.{Bool, true, false}
use mathlib.Core.List.{List, [], ◌∷◌, ◌++◌, append_assoc, append-nil}
use Rattle.base.specs.Pick.{pick}
use Rattle.base.specs.Bytes.{text, ◌then◌}
use Rattle.base.proofs.TextLaws.{then_assoc, then_none}
use Rattle.megaco.specs.Tree.{Command, Action, action, transaction}
use Rattle.megaco.specs.State.{State, wrote}
use Rattle.megaco.specs.Reply.{Report, Acted, separator, action_text, earlier_text, actions_text, reply_text, limited, transaction_text}
use Rattle.megaco.specs.Topology.{triples_of, links_of}
use Rattle.megaco.specs.Attempt.{seen, number_of}
use Rattle.megaco.specs.Command.{Outcome, outcome, run_command}
use Rattle.megaco.specs.Action.{Start, started}
use Rattle.megaco.specs.Transaction.{no_commands, Step, command_steps, steps, progress, Course, course, begin, advance, proceed, step, run, fresh, Ran, ran, run_transaction}
use Rattle.protocol.specs.Types.{Context}
use Rattle.run_action.specs.Fold.{run_commands, after_start, run_action, outcome_text, run_actions}

-- a transaction that has stopped stays as it is
pub stopped : (ss : List Step) (t : State) (acts : List Acted) → run ss (course t (progress false acts)) ≡ course t (progress false acts)
unfolding run step pick
stopped [] t acts = refl
stopped (s ∷ ss) t acts = stopped ss t acts

-- the action as an outcome leaves it
abbrev reported : Acted → Outcome → Acted
reported a x = record { at = x.at; given = a.given; said = a.said ++ x.reports }

-- what follows an outcome
abbrev onward : List Step → Acted → List Acted → Outcome → Course
onward ss a acts x = pick x.going (run ss (course x.state (progress true (reported a x ∷ acts)))) (course x.state (progress false (reported a x ∷ acts)))

run_orders : (cs : List Command) (ss : List Step) (t : State) (a : Acted) (acts : List Acted)
    → run (command_steps cs ss) (course t (progress true (a ∷ acts))) ≡ onward ss a acts (run_commands cs a.given a.at t)
unfolding command_steps run step proceed advance run_commands pick
run_orders [] ss t a acts = ap (λ (l : List Report). run ss (course t (progress true (record { at = a.at; given = a.given; said = l } ∷ acts)))) (sym (append-nil a.said))
run_orders (c ∷ cs) ss t a acts =
    let x = run_command c a.given a.at t in by x.state x.reports x.at x.going (run_orders cs ss x.state (reported a x) acts)
  where
    by : (u : State) (rs : List Report) (at : Context) (g : Bool)
        → run (command_steps cs ss) (course u (progress true (reported a (outcome u rs at g) ∷ acts))) ≡ onward ss (reported a (outcome u rs at g)) acts (run_commands cs a.given at u)
        → run (command_steps cs ss) (course u (progress g (reported a (outcome u rs at g) ∷ acts)))
        ≡ onward ss a acts (let y = run_commands cs a.given at u in pick g (outcome y.state (rs ++ y.reports) y.at y.going) (outcome u rs at g))
    by u rs at true ih =
        ih
        ∙ ap (λ (l : List Report). let y = run_commands cs a.given at u in
        let b : Acted = record { at = y.at; given = a.given; said = l } in
        pick y.going (run ss (course y.state (progress true (b ∷ acts)))) (course y.state (progress false (b ∷ acts)))) (append_assoc a.said rs (run_commands cs a.given at u).reports)
    by u rs at false ih = stopped (command_steps cs ss) u (reported a (outcome u rs at false) ∷ acts)

-- the texts of the actions that have ended, and a comma if there are any
abbrev ended : List Acted → List ℕ
ended acts = earlier_text acts (actions_text acts)

abbrev none? : List Acted → Bool
none? [] = true
none? (a ∷ acts) = false

-- a text after the actions that have ended
glue : (prev : List Acted) (z : List ℕ) → ended prev then z ≡ actions_text prev then separator (none? prev) then z
unfolding ◌then◌ earlier_text actions_text separator pick
glue [] z = refl
glue (a ∷ prev) z = append_assoc (actions_text (a ∷ prev)) (text ",") z

-- a state and what is run in the code's order agree: the table, and the text after that of earlier actions
pub record Agrees (prev : List Acted) (x : Course) (y : Ran) : Type 0 where
  pub state : x.state ≡ y.state
  pub text : actions_text x.progress.acts ≡ actions_text prev then y.text

-- an action's text, told by steps and in order
acted_text : (prev : List Acted) (a : Acted) (x : Outcome) → a.at ≡ x.at → a.said ≡ x.reports → actions_text (a ∷ prev) ≡ actions_text prev then outcome_text (none? prev) x
unfolding actions_text outcome_text
acted_text prev a x p q = glue prev (action_text a.at a.said) ∙ (λ i. actions_text prev then separator (none? prev) then action_text (p i) (q i))

-- the action has run; the others follow or not
run_rest : (acts : List Action) (prev : List Acted) (x : Outcome) (a : Acted) → a.at ≡ x.at → a.said ≡ x.reports
    → Agrees (a ∷ prev) (run (steps acts) (course x.state (progress true (a ∷ prev)))) (run_actions acts false x.state) → (g : Bool)
    → Agrees prev
    (pick g (run (steps acts) (course x.state (progress true (a ∷ prev)))) (course x.state (progress false (a ∷ prev))))
    (let y = run_actions acts false x.state in pick g (ran y.state (outcome_text (none? prev) x then y.text)) (ran x.state (outcome_text (none? prev) x)))
unfolding pick
run_rest acts prev x a p q ih true =
    record {
      state = ih.state;
      text =
          ih.text
          ∙ ap (λ (z : List ℕ). z then (run_actions acts false x.state).text) (acted_text prev a x p q)
          ∙ then_assoc (actions_text prev) (outcome_text (none? prev) x) (run_actions acts false x.state).text;
    }
run_rest acts prev x a p q ih false = record { state = refl; text = acted_text prev a x p q }

-- from an action's start on
run_action_lem : (cs : List Command) (acts : List Action) (prev : List Acted) (t : State) (b : Start)
    → ((x : Outcome) (a : Acted) → Agrees (a ∷ prev) (run (steps acts) (course x.state (progress true (a ∷ prev)))) (run_actions acts false x.state))
    → Agrees prev (run (command_steps cs (steps acts)) (begin b t prev))
    (let x = after_start cs b t in
    let y = run_actions acts false x.state in
    pick x.going (ran y.state (outcome_text (none? prev) x then y.text)) (ran x.state (outcome_text (none? prev) x)))
unfolding begin after_start pick
run_action_lem cs acts prev t b ih = by (wrote b.writes t) b.acted b.going
  where
    Fits : State → Acted → Bool → Type 0
    Fits u a g =
        Agrees prev (run (command_steps cs (steps acts)) (course u (progress g (a ∷ prev))))
        (let z = run_commands cs a.given a.at u in
        let x = pick g (outcome z.state (a.said ++ z.reports) z.at z.going) (outcome u a.said a.at false) in
        let y = run_actions acts false x.state in
        pick x.going (ran y.state (outcome_text (none? prev) x then y.text)) (ran x.state (outcome_text (none? prev) x)))

    by : (u : State) (a : Acted) (g : Bool) → Fits u a g
    by u a true =
        let z = run_commands cs a.given a.at u in
        let x = outcome z.state (a.said ++ z.reports) z.at z.going in
        rw (run_orders cs (steps acts) u a prev) (run_rest acts prev x (reported a z) refl refl (ih x (reported a z)) z.going)
    by u a false =
        let x = outcome u a.said a.at false in
        rw (stopped (command_steps cs (steps acts)) u (a ∷ prev)) (run_rest acts prev x a refl refl (ih x a) false)

pub run_actions_lem : (acts : List Action) (prev : List Acted) (t : State) → Agrees prev (run (steps acts) (course t (progress true prev))) (run_actions acts (none? prev) t)
unfolding run steps step proceed run_actions run_action pick
run_actions_lem [] prev t = record { state = refl; text = sym (then_none (actions_text prev)) }
run_actions_lem (action c ps cs ∷ acts) prev t =
    run_action_lem cs acts prev t (started c ps (no_commands cs) (seen (number_of c) t.table) (links_of (number_of c) t.table (triples_of ps))) (λ x a. run_actions_lem acts (a ∷ prev) x.state)

-- a transaction's run, in the code's order
pub transaction_is : (id : ℕ) (acts : List Action) (t : State)
    → run_transaction (transaction id acts) t ≡ (let y = run_actions acts true t in ran y.state (limited id (reply_text id y.text)))
unfolding run_transaction transaction_text
transaction_is id acts t =
    let a = run_actions_lem acts [] t in
    let p : actions_text (run (steps acts) (course t fresh)).progress.acts ≡ (run_actions acts true t).text = a.text ∙ (unfold actions_text ◌then◌ in refl) in
    λ i. record { state = a.state i; text = limited id (reply_text id (p i)) }

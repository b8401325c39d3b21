-- A transaction's run in the order in which the code goes: commands within an action, actions within a transaction, text from the front.
-- proofs/FoldLaws.antt says that it is the run by steps of crate `megaco`.
use Rattle.std.specs.Prelude.{ℕ, Bool, true, false, List, [], ◌∷◌, ◌++◌}
use Rattle.base.specs.Pick.{pick}
use Rattle.base.specs.Bytes.{◌then◌}
use Rattle.megaco.specs.Tree.{Command, Action, action}
use Rattle.megaco.specs.State.{State, wrote}
use Rattle.megaco.specs.Reply.{separator, action_text}
use Rattle.megaco.specs.Topology.{triples_of, links_of}
use Rattle.megaco.specs.Attempt.{seen, number_of}
use Rattle.megaco.specs.Command.{Outcome, outcome, run_command}
use Rattle.megaco.specs.Action.{Start, started}
use Rattle.megaco.specs.Transaction.{no_commands, Ran, ran}
use Rattle.protocol.specs.Types.{Context}

-- commands in order, until one stops the transaction
unfoldable pub run_commands : List Command → ℕ → Context → State → Outcome
run_commands [] given at st = outcome st [] at true
run_commands (c ∷ cs) given at st =
    let x = run_command c given at st in
    let y = run_commands cs given x.at x.state in
    pick x.going (outcome y.state (x.reports ++ y.reports) y.at y.going) x

-- commands after an action's start
unfoldable pub after_start : List Command → Start → State → Outcome
after_start cs b st =
    let u = wrote b.writes st in
    let x = run_commands cs b.acted.given b.acted.at u in
    pick b.going (outcome x.state (b.acted.said ++ x.reports) x.at x.going) (outcome u b.acted.said b.acted.at false)

-- an action: its start and its commands
unfoldable pub run_action : Action → State → Outcome
run_action (action c ps cs) st =
    after_start cs (started c ps (no_commands cs) (seen (number_of c) st.table) (links_of (number_of c) st.table (triples_of ps))) st

-- `C=id{..}` and what stands before it
unfoldable pub outcome_text : Bool → Outcome → List ℕ
outcome_text first x = separator first then action_text x.at x.reports

-- actions in order, until one stops the transaction; `first` tells that no comma is due
unfoldable pub run_actions : List Action → Bool → State → Ran
run_actions [] first st = ran st []
run_actions (a ∷ acts) first st =
    let x = run_action a st in
    let y = run_actions acts false x.state in
    pick x.going (ran y.state (outcome_text first x then y.text)) (ran x.state (outcome_text first x))

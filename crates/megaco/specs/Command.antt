-- One command (document 01, 'Running'): its tests 1 to 6 in order, the last two for each attempt, and what it leaves.
use Rattle.std.specs.Prelude.{ℕ, ◌+◌, ◌-◌, Bool, true, false, not, ◌&&◌, ◌||◌, List, [], ◌∷◌, eqb, Ok, Err}
use Rattle.std.proofs.Math.Option.{Option, none, some}
use Rattle.base.specs.Pick.{pick}
use Rattle.base.specs.Bytes.{text}
use Rattle.megaco.specs.Keywords.{spells}
use Rattle.megaco.specs.declared.Token.TheVariants.{AddToken, ModifyToken, SubtractToken, MoveToken, AuditValueToken}
use Rattle.megaco.specs.Tree.{Items, Command, command}
use Rattle.megaco.specs.Table.{ctx, get, line_terminations, fitted, context_words, exists, free_ephemeral}
use Rattle.megaco.specs.Blocks.{block_at}
use Rattle.megaco.specs.State.{State, wrote, renewed}
use Rattle.megaco.specs.Names.{in_range, name_of}
use Rattle.megaco.specs.Items.{judge_items, given?}
use Rattle.megaco.specs.Reply.{nothing, Report, done, refused, failed}
use Rattle.megaco.specs.Attempt.{seen, number_of, look, effect}
use Rattle.megaco.specs.declared.Context.{Context}
use Rattle.megaco.specs.declared.Context.TheVariants.{Null, Numbered, Choose, All}
use Rattle.megaco.specs.declared.Op.{Op}
use Rattle.megaco.specs.declared.Op.TheVariants.{Add, Modify, Subtract, Move, AuditValue}
use Rattle.megaco.specs.declared.Range.{Range}
use Rattle.megaco.specs.declared.Name.{Name}
use Rattle.megaco.specs.declared.Name.TheVariants.{Termination, Root, Chosen, Unchosen, Wildcard, Unmatched, Unknown}
use Rattle.megaco.specs.Results.{Judged}
use Rattle.megaco.specs.declared.Values.{Values}

-- ---- what a command leaves
-- what a command leaves: the state, its reports, the action's context, and whether the transaction goes on
pub record Outcome : Type 0 where
  pub state : State
  pub reports : List Report
  pub at : Context
  pub going : Bool

abbrev pub outcome : State → List Report → Context → Bool → Outcome
outcome st rs at g = record { state = st; reports = rs; at = at; going = g }

-- the command failed before any attempt: "other failures the bytes received"
unfoldable pub command_error : Op → List ℕ → ℕ → Context → State → Outcome
command_error op name code at st = outcome st (refused op name code ∷ []) at false

-- "Action errors end the transaction, `O-` or not"
unfoldable pub action_error : ℕ → Context → State → Outcome
action_error code at st = outcome st (failed code ∷ []) at false

-- ---- the commands and the context that tests ask for
unfoldable pub is_add : Op → Bool
is_add = elim [ Add ↦ true | Modify ↦ false | Subtract ↦ false | Move ↦ false | AuditValue ↦ false ]

unfoldable pub is_subtract : Op → Bool
is_subtract = elim [ Add ↦ false | Modify ↦ false | Subtract ↦ true | Move ↦ false | AuditValue ↦ false ]

-- the commands that leave a termination where it stands: Modify, and AuditValue, its tests being "as for Modify"
unfoldable pub in_place : Op → Bool
in_place = elim [ Add ↦ false | Modify ↦ true | Subtract ↦ false | Move ↦ false | AuditValue ↦ true ]

unfoldable pub is_null : Context → Bool
is_null = elim [ Null ↦ true | Numbered c ↦ false | Choose ↦ false | All ↦ false ]

-- ---- test 1
-- "443 unknown command or `W-`"
unfoldable pub op_of : Bool → List ℕ → Option Op
op_of true word = none
op_of false word =
    pick (spells AddToken word) (some Add)
    (pick (spells ModifyToken word) (some Modify)
    (pick (spells SubtractToken word) (some Subtract)
    (pick (spells MoveToken word) (some Move)
    (pick (spells AuditValueToken word) (some AuditValue) none))))

-- "421 Add, Subtract or Move in `-`"
unfoldable pub forbidden_in_null : Op → Context → Bool
forbidden_in_null op at = is_null at && not (in_place op)

-- ---- test 2
-- "411: the context does not exist now .., or `$` not yet a number for Modify and Subtract"; no command comes to run in `*`
unfoldable pub no_context : Op → Context → ℕ → Bool
no_context op at held = elim at [ Null ↦ false | Numbered c ↦ eqb held 0 | Choose ↦ in_place op || is_subtract op | All ↦ true ]

-- ---- test 3 is `judgeItems` of `Items`; test 4: whom the name means
-- "for Add, those in null; for Modify and Subtract, those in the action's context; for Move, those in a non-null context other than the target"
unfoldable pub wanted : Op → ℕ → ℕ → Bool
wanted op c word = elim op [ Add ↦ eqb word 0 | Modify ↦ eqb word c | Subtract ↦ eqb word c | Move ↦ not (eqb word 0) && not (eqb word c) | AuditValue ↦ eqb word c ]

-- "A wildcard matches existing terminations only", "tried in ascending number": from number i on, with the rest of the context words
unfoldable pub matches_from : ℕ → Op → ℕ → Range → ℕ → List ℕ → List ℕ
matches_from n op c r i [] = []
matches_from n op c r i (x ∷ xs) = let m = matches_from n op c r (i + 1) xs in pick (in_range n r i && exists n i x && wanted op c x) (i ∷ m) m

-- "The matches are fixed before the first attempt"
unfoldable pub matches : Op → Context → Range → List ℕ → List ℕ
matches op at r t = matches_from (fitted t) op (number_of at) r 0 (context_words t)

-- whom a command's name means: nobody, with a code; the gateway itself; the terminations to try
pub data Targets : Type 0 where
  no_target : ℕ → Targets
  gateway : Targets
  targets : (wild : Bool) → List ℕ → Targets

-- what ROOT may not have: any item; of AuditValue Media alone ("ROOT in `-` may have empty braces", "447 for ROOT with Media")
unfoldable pub not_for_root : Op → Bool → Values → Bool
not_for_root op items vs = elim op [ Add ↦ items | Modify ↦ items | Subtract ↦ items | Move ↦ items | AuditValue ↦ vs.audited ]

-- "`ROOT`: 410 unless Modify; 435 outside `-`; 447 with items"
unfoldable pub root_targets : Op → Context → Bool → Targets
root_targets op at items = pick (not (in_place op)) (no_target 410) (pick (not (is_null at)) (no_target 435) (pick items (no_target 447) gateway))

-- "choose the lowest absent ephemeral, 432 if none"
unfoldable pub free_targets : ℕ → ℕ → Targets
free_targets n k = pick (eqb k 0) (no_target 432) (targets false ((line_terminations n + (k - 1)) ∷ []))

-- "431 if nothing matches"
unfoldable pub match_targets : List ℕ → Targets
match_targets [] = no_target 431
match_targets (i ∷ is) = targets true (i ∷ is)

-- test 4
unfoldable pub targets_of : Op → Context → Bool → Name → List ℕ → Targets
targets_of op at items Root t = root_targets op at items
targets_of op at items Chosen t = let m = free_targets (fitted t) (free_ephemeral t) in pick (not (is_add op)) (no_target 410) m
targets_of op at items Unchosen t = pick (not (is_add op)) (no_target 410) (no_target 432)
targets_of op at items (Wildcard r) t = match_targets (matches op at r t)
targets_of op at items Unmatched t = no_target 431
targets_of op at items (Termination i) t = pick (exists (fitted t) i (get t (ctx i))) (targets false (i ∷ [])) (no_target 430)
targets_of op at items Unknown t = no_target 430

-- ---- tests 5 and 6, for each attempt
-- attempts in the order given. "Each is reported; the command failed if one failed"
unfoldable pub attempts : Op → Bool → List ℕ → ℕ → Values → List ℕ → Context → State → Outcome
attempts op wild name given vs [] at st = outcome st [] at true
attempts op wild name given vs (i ∷ is) at st =
    let e = effect op wild name given vs i at (look at i st.table) (block_at (i - line_terminations (fitted st.table)) st.blocks) in
    let r = attempts op wild name given vs is e.at (renewed e.blocks (wrote e.writes st)) in
    outcome r.state (e.report ∷ r.reports) r.at (e.good && r.going)

-- tests 5 and 6, for each that the name means
unfoldable pub run_targets : Op → List ℕ → ℕ → Values → Targets → Context → State → Outcome
run_targets op name given vs (no_target code) at st = command_error op name code at st
run_targets op name given vs gateway at st = outcome st (done op (text "ROOT") nothing ∷ []) at true
run_targets op name given vs (targets wild is) at st = attempts op wild name given vs is at st

-- ---- the tests in order
-- test 4 after test 3
unfoldable pub from_test4 : Op → List ℕ → ℕ → Bool → Judged → Context → State → Outcome
from_test4 op name given items (Err code) at st = command_error op name code at st
from_test4 op name given items (Ok vs) at st = run_targets op name given vs (targets_of op at (not_for_root op items vs) (name_of (fitted st.table) name) st.table) at st

-- tests 2 to 6
unfoldable pub from_test2 : Op → List ℕ → Items → ℕ → Context → State → Outcome
from_test2 op name items given at st =
    let r = from_test4 op name given (given? items) (judge_items op items) at st in
    pick (no_context op at (seen (number_of at) st.table).held) (command_error op name 411 at st) r

-- "After a failed command without `O-` the rest of its transaction does not run; after an optional one it does"
unfoldable pub unless_optional : Bool → Outcome → Outcome
unless_optional o x = outcome x.state x.reports x.at (x.going || o)

-- test 1, then the others
unfoldable pub from_test1 : Bool → Option Op → List ℕ → Items → ℕ → Context → State → Outcome
from_test1 o none name items given at st = action_error 443 at st
from_test1 o (some op) name items given at st =
    let r = unless_optional o (from_test2 op name items given at st) in pick (forbidden_in_null op at) (action_error 421 at st) r

unfoldable pub run_command : Command → ℕ → Context → State → Outcome
run_command (command o w word name items) given at st = from_test1 o (op_of w word) name items given at st

-- A run keeps what its commands and its actions' starts keep; and so the length of any table.
use Rattle.std.specs.Prelude.{Ok, Err}
use Prim.Native.Nat.{ℕ, ◌-◌}
use mathlib.Core.Path.{◌≡◌, refl, ◌∙◌}
use mathlib.Core.Bool.{Bool, false}
use mathlib.Core.List.{List, [], ◌∷◌}
use mathlib.Core.Option.{Option, none, some}
use lib.ListN.{length}
use Rattle.protocol.specs.Types.{Context, Op, Judged, Seen, Values}
use Rattle.megaco.specs.Topology.{triples_of, Link, links_of}
use Rattle.megaco.specs.Tree.{Items, Command, command, Property, Transaction, transaction, Message, well_formed, fault400, fault403, fault406, Part, request, acknowledge}
use Rattle.megaco.specs.Table.{line_terminations, fitted}
use Rattle.megaco.specs.Blocks.{block_at}
use Rattle.megaco.specs.State.{State, wrote, renewed}
use Rattle.megaco.specs.Names.{name_of}
use Rattle.megaco.specs.Items.{given?}
use Rattle.megaco.specs.Reply.{Acted}
use Rattle.megaco.specs.Attempt.{seen, number_of, look, Effect, effect}
use Rattle.megaco.specs.Command.{Outcome, attempts, command_error, action_error, Targets, no_target, gateway, targets, targets_of, run_targets, op_of, forbidden_in_null, no_context, not_for_root, from_test4, from_test2, unless_optional, from_test1, run_command}
use Rattle.megaco.specs.Action.{started}
use Rattle.megaco.specs.Transaction.{Step, start, command_step, steps, Course, course, begin, advance, proceed, step, run, fresh, run_transaction}
use Rattle.megaco.specs.Kept.{find}
use Rattle.megaco.specs.Room.{Room, kept_of}
use Rattle.megaco.specs.Message.{identifier, answered, run_part, run_parts, run_message}
use Rattle.megaco.specs.Reading.{message_r, sender_of}
use Rattle.megaco.specs.Call.{Called, written, replied, taken, call}
use Rattle.base.proofs.TestLaws.{pick_of}
use Rattle.laws.proofs.Slots.{length_apply}
use Rattle.protocol.specs.Ranges.{InRange, JudgedInRange, right}
use Rattle.laws.proofs.Values.{items_in_range}

-- P is kept of the state, and G holds of the record that the running action gives to `$`
pub record Keeps (P : State → Type 0) (G : ℕ → Type 0) : Type 0 where
  pub orders : (op : Op) (name : List ℕ) (given : ℕ) (vs : Values) (items : Bool) (at : Context) (st : State) → P st → G given → InRange vs → forbidden_in_null op at ≡ false
      → no_context op at (seen (number_of at) st.table).held ≡ false → P (run_targets op name given vs (targets_of op at items (name_of (fitted st.table) name) st.table) at st).state
  pub starts : (c : Context) (ps : List Property) (alone : Bool) (st : State) → P st → P (wrote (started c ps alone (seen (number_of c) st.table) (links_of (number_of c) st.table (triples_of ps))).writes st)
  pub gives : (c : Context) (ps : List Property) (alone : Bool) (there : Seen) (links : List Link) → G (started c ps alone there links).acted.given

-- of the action that is running
abbrev pub Running : (ℕ → Type 0) → List Acted → Type 0
Running G [] = Unit {0}
Running G (a ∷ acts) = G a.given

pub record CourseKeeps (P : State → Type 0) (G : ℕ → Type 0) (x : Course) : Type 0 where
  pub state : P x.state
  pub running : Running G x.progress.acts

module _ (P : State → Type 0) (G : ℕ → Type 0) (K : Keeps P G) where
  test4_keeps : (op : Op) (name : List ℕ) (given : ℕ) (items : Bool) (j : Judged) (at : Context) (st : State) → P st → G given → JudgedInRange j → forbidden_in_null op at ≡ false
      → no_context op at (seen (number_of at) st.table).held ≡ false → P (from_test4 op name given items j at st).state
  unfolding from_test4 command_error
  test4_keeps op name given items (Err code) at st p g f b l = p
  test4_keeps op name given items (Ok vs) at st p g (right f) b l = K.orders op name given vs (not_for_root op items vs) at st p g f b l

  test2_keeps : (op : Op) (name : List ℕ) (items : Items) (given : ℕ) (at : Context) (st : State) → P st → G given → forbidden_in_null op at ≡ false
      → P (from_test2 op name items given at st).state
  unfolding from_test2 command_error
  test2_keeps op name items given at st p g b =
      pick_of (λ (x : Outcome). P x.state) _ (λ _. p) (λ l. test4_keeps op name given (given? items) _ at st p g (items_in_range op items) b l)

  test1_keeps : (o : Bool) (op : Option Op) (name : List ℕ) (items : Items) (given : ℕ) (at : Context) (st : State) → P st → G given
      → P (from_test1 o op name items given at st).state
  unfolding from_test1 action_error unless_optional
  test1_keeps o none name items given at st p g = p
  test1_keeps o (some op) name items given at st p g =
      pick_of (λ (x : Outcome). P x.state) (forbidden_in_null op at) (λ _. p) (λ b. test2_keeps op name items given at st p g b)

  pub command_keeps : (c : Command) (given : ℕ) (at : Context) (st : State) → P st → G given → P (run_command c given at st).state
  unfolding run_command
  command_keeps (command o w word name items) given at st p g = test1_keeps o (op_of w word) name items given at st p g

  proceed_keeps : (s : Step) (st : State) (acts : List Acted) → P st → Running G acts → CourseKeeps P G (proceed s st acts)
  unfolding proceed begin advance
  proceed_keeps (start c ps alone) st acts p g = record { state = K.starts c ps alone st p; running = K.gives c ps alone _ _ }
  proceed_keeps (command_step c) st [] p g = record { state = p; running = tt }
  proceed_keeps (command_step c) st (a ∷ acts) p g = record { state = command_keeps c a.given a.at st p g; running = g }

  pub step_keeps : (s : Step) (x : Course) → CourseKeeps P G x → CourseKeeps P G (step s x)
  unfolding step
  step_keeps s x k = pick_of (CourseKeeps P G) x.progress.going (λ _. proceed_keeps s x.state x.progress.acts k.state k.running) (λ _. k)

  pub run_keeps : (ss : List Step) (x : Course) → CourseKeeps P G x → CourseKeeps P G (run ss x)
  unfolding run
  run_keeps [] x k = k
  run_keeps (s ∷ ss) x k = run_keeps ss (step s x) (step_keeps s x k)

  pub transaction_keeps : (x : Transaction) (st : State) → P st → P (run_transaction x st).state
  unfolding run_transaction
  transaction_keeps (transaction id acts) st p = (run_keeps (steps acts) (course st fresh) (record { state = p; running = tt })).state

  answered_keeps : (m : List ℕ) (x : Transaction) (st : State) (r : Room) (y : Option (List ℕ)) → P st → P (answered m x st r y).state
  unfolding answered
  answered_keeps m x st r (some y) p = p
  answered_keeps m x st r none p = transaction_keeps x st p

  pub part_keeps : (m : List ℕ) (x : Part) (st : State) (r : Room) → P st → P (run_part m x st r).state
  unfolding run_part
  part_keeps m (request x) st r p = answered_keeps m x st r (find m (identifier x) (kept_of r)) p
  part_keeps m (acknowledge ks) st r p = p

  parts_keep : (m : List ℕ) (xs : List Part) (st : State) (r : Room) → P st → P (run_parts m xs st r).state
  unfolding run_parts
  parts_keep m [] st r p = p
  parts_keep m (x ∷ xs) st r p = parts_keep m xs (run_part m x st r).state (run_part m x st r).room (part_keeps m x st r p)

  pub message_keeps : (m : List ℕ) (x : Message) (st : State) (r : Room) → P st → P (run_message m x st r).state
  unfolding run_message
  message_keeps m (well_formed xs) st r p = parts_keep m xs st r p
  message_keeps m fault400 st r p = p
  message_keeps m (fault403 id) st r p = p
  message_keeps m fault406 st r p = p

  pub call_keeps : (n : ℕ) (m : List ℕ) (st : State) (r : Room) (own o : List ℕ) → P st → P (call n m st r own o).state
  unfolding call taken replied written
  call_keeps n m st r own o p =
      pick_of (λ (x : Called). P x.state) _ (λ _. p) (λ _. pick_of (λ (x : Called). P x.state) _ (λ _. p) (λ _. pick_of (λ (x : Called). P x.state) _ (λ _. p) (λ _. pick_of (λ (x : Called). P x.state) _ (λ _. p)
      (λ _. pick_of (λ (x : Called). P x.state) _ (λ _. p) (λ _. pick_of (λ (x : Called). P x.state) _ (λ _. p) (λ _. message_keeps (sender_of m) (message_r m) st r p))))))

-- ---- the length

length_attempts : (op : Op) (wild : Bool) (name : List ℕ) (given : ℕ) (vs : Values) (is : List ℕ) (at : Context) (st : State)
    → length (attempts op wild name given vs is at st).state.table ≡ length st.table
unfolding attempts
length_attempts op wild name given vs [] at st = refl
length_attempts op wild name given vs (i ∷ is) at st =
    let e : Effect = effect op wild name given vs i at (look at i st.table) (block_at (i - line_terminations (fitted st.table)) st.blocks) in
    length_attempts op wild name given vs is e.at (renewed e.blocks (wrote e.writes st)) ∙ length_apply e.writes st.table

length_targets : (op : Op) (name : List ℕ) (given : ℕ) (vs : Values) (a : Targets) (at : Context) (st : State) → length (run_targets op name given vs a at st).state.table ≡ length st.table
unfolding run_targets command_error
length_targets op name given vs (no_target code) at st = refl
length_targets op name given vs gateway at st = refl
length_targets op name given vs (targets wild is) at st = length_attempts op wild name given vs is at st

pub length_kept : (n : ℕ) → Keeps (λ st. length st.table ≡ n) (λ _. Unit {0})
length_kept n =
    record {
      orders = λ op name given vs items at st l _ _ _ _. length_targets op name given vs (targets_of op at items (name_of (fitted st.table) name) st.table) at st ∙ l;
      starts = λ c ps alone st l. length_apply _ st.table ∙ l;
      gives = λ c ps alone there links. tt;
    }

pub run_length : (ss : List Step) (x : Course) → length (run ss x).state.table ≡ length x.state.table
run_length ss x = (run_keeps (λ st. length st.table ≡ length x.state.table) (λ _. Unit {0}) (length_kept (length x.state.table)) ss x (record { state = refl; running = any x.progress.acts })).state
  where
    any : (acts : List Acted) → Running (λ _. Unit {0}) acts
    any [] = tt
    any (a ∷ acts) = tt

pub call_length : (n : ℕ) (m : List ℕ) (st : State) (r : Room) (own o : List ℕ) → length (call n m st r own o).state.table ≡ length st.table
call_length n m st r own o = call_keeps (λ u. length u.table ≡ length st.table) (λ _. Unit {0}) (length_kept (length st.table)) n m st r own o refl

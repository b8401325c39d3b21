-- An audit leaves the state as it is.
use Rattle.std.specs.Prelude.{Ok, Err}
use Prim.Native.Nat.{ℕ, ◌-◌}
use mathlib.Core.Path.{◌≡◌, refl, sym, ap, ◌∙◌, subst}
use mathlib.Core.Bool.{Bool, true, false}
use mathlib.Core.List.{List, [], ◌∷◌}
use mathlib.Core.Option.{Option, none, some}
use Rattle.base.specs.Pick.{pick}
use Rattle.base.proofs.TestLaws.{pick_of}
use Rattle.megaco.specs.Tree.{Items, Command, command, Action, action, transaction}
use Rattle.megaco.specs.Table.{line_terminations, fitted, Write, apply}
use Rattle.megaco.specs.Blocks.{block_at, cleared}
use Rattle.megaco.specs.State.{State, wrote, renewed}
use Rattle.megaco.specs.declared.Block.{Block}
use Rattle.megaco.specs.Reply.{Acted}
use Rattle.megaco.specs.Topology.{Link, links_of, triples_of}
use Rattle.megaco.specs.Attempt.{judge, checks, changes, seen, number_of, look, renews, concluded, effect, Effect}
use Rattle.megaco.specs.Command.{Outcome, attempts, command_error, action_error, Targets, no_target, gateway, targets, run_targets, op_of, forbidden_in_null, no_context, from_test4, from_test2, unless_optional, from_test1, run_command}
use Rattle.megaco.specs.Action.{start_checks, start_writes, any_given, over15, started_by, started}
use Rattle.megaco.specs.Transaction.{Step, start, command_step, command_steps, no_commands, steps, Course, course, begin, advance, proceed, step, run, fresh, run_transaction}
use Rattle.protocol.specs.Types.{Context, Null, Numbered, Choose, All, Op, AuditValue, Judged, Checked, Values, Seen, View}
use Rattle.audits.specs.Audits.{IsAudit, Stays, Audits, OnlyAudits, TransactionStays, no_more, more}

-- ---- a command

module _ (wild : Bool) (name : List ℕ) (given : ℕ) (vs : Values) where
  no_writes : (i : ℕ) (at : Context) (v : View) (b : Block) → (effect AuditValue wild name given vs i at v b).writes ≡ []
  unfolding effect concluded changes
  no_writes i at v b = by (judge (checks AuditValue at i vs v))
    where
      by : (x : Checked) → (concluded AuditValue wild name given vs i at v b x).writes ≡ []
      by (Ok tt) = refl
      by (Err code) = refl

  no_blocks : (i : ℕ) (at : Context) (v : View) (b : Block) → (effect AuditValue wild name given vs i at v b).blocks ≡ []
  unfolding effect concluded renews
  no_blocks i at v b = by (judge (checks AuditValue at i vs v))
    where
      by : (x : Checked) → (concluded AuditValue wild name given vs i at v b x).blocks ≡ []
      by (Ok tt) = refl
      by (Err code) = refl

  -- what an attempt comes to, by the view and the block of its termination
  abbrev pub effect_in : ℕ → Context → State → Effect
  effect_in i at st = effect AuditValue wild name given vs i at (look at i st.table) (block_at (i - line_terminations (fitted st.table)) st.blocks)

  pub effect_keeps : (i : ℕ) (at : Context) (st : State) → renewed (effect_in i at st).blocks (wrote (effect_in i at st).writes st) ≡ st
  unfolding apply cleared
  effect_keeps i at st =
      ap (λ (ks : List ℕ). renewed ks (wrote (effect_in i at st).writes st)) (no_blocks i at _ _) ∙ ap (λ (ws : List Write). wrote ws st) (no_writes i at (look at i st.table) (block_at (i - line_terminations (fitted st.table)) st.blocks))

  attempts_keep : (is : List ℕ) (at : Context) (st : State) → (attempts AuditValue wild name given vs is at st).state ≡ st
  unfolding attempts
  attempts_keep [] at st = refl
  attempts_keep (i ∷ is) at st = attempts_keep is (effect_in i at st).at (renewed (effect_in i at st).blocks (wrote (effect_in i at st).writes st)) ∙ effect_keeps i at st

targets_keep : (name : List ℕ) (given : ℕ) (vs : Values) (a : Targets) (at : Context) (st : State) → (run_targets AuditValue name given vs a at st).state ≡ st
unfolding run_targets command_error
targets_keep name given vs (no_target code) at st = refl
targets_keep name given vs gateway at st = refl
targets_keep name given vs (targets wild is) at st = attempts_keep wild name given vs is at st

test4_keeps : (name : List ℕ) (given : ℕ) (items : Bool) (j : Judged) (at : Context) (st : State) → (from_test4 AuditValue name given items j at st).state ≡ st
unfolding from_test4 command_error
test4_keeps name given items (Err code) at st = refl
test4_keeps name given items (Ok vs) at st = targets_keep name given vs _ at st

test1_keeps : (o : Bool) (name : List ℕ) (items : Items) (given : ℕ) (at : Context) (st : State) → (from_test1 o (some AuditValue) name items given at st).state ≡ st
unfolding from_test1 action_error unless_optional from_test2 command_error
test1_keeps o name items given at st =
    pick_of (λ (x : Outcome). x.state ≡ st) (forbidden_in_null AuditValue at) (λ _. refl)
    (λ _. pick_of (λ (x : Outcome). x.state ≡ st) (no_context AuditValue at (seen (number_of at) st.table).held) (λ _. refl) (λ _. test4_keeps name given _ _ at st))

pub stays : Stays
unfolding run_command
stays (command o w word name items) e given at st =
    subst (λ (op : Option Op). (from_test1 o op name items given at st).state ≡ st) (sym e) (test1_keeps o name items given at st)

-- ---- a transaction

-- an action's start without properties, and an audit
data Still : List Step → Type 0 where
  ends : Still []
  starts : {c : Context} {alone : Bool} {ss : List Step} → Still ss → Still (start c [] alone ∷ ss)
  audits : {c : Command} {ss : List Step} → IsAudit c → Still ss → Still (command_step c ∷ ss)

still_start : (c : Context) (alone : Bool) (there : Seen) (links : List Link) → (started c [] alone there links).writes ≡ []
unfolding started started_by start_writes any_given pick
still_start c alone there links = by c (judge (start_checks c [] alone there links))
  where
    by : (d : Context) (x : Checked) → (started_by d [] alone there links x).writes ≡ []
    by Null (Ok tt) = refl
    by (Numbered n) (Ok tt) = refl
    by Choose (Ok tt) = refl
    by All (Ok tt) = refl
    by d (Err code) = refl

start_keeps : (c : Context) (alone : Bool) (st : State) (acts : List Acted) → (proceed (start c [] alone) st acts).state ≡ st
unfolding proceed begin apply
start_keeps c alone st acts = ap (λ (ws : List Write). wrote ws st) (still_start c alone (seen (number_of c) st.table) (links_of (number_of c) st.table (triples_of [])))

audit_keeps : (c : Command) → IsAudit c → (st : State) (acts : List Acted) → (proceed (command_step c) st acts).state ≡ st
unfolding proceed advance
audit_keeps c e st [] = refl
audit_keeps c e st (a ∷ acts) = stays c e a.given a.at st

step_keeps : (s : Step) (x : Course) → (proceed s x.state x.progress.acts).state ≡ x.state → (step s x).state ≡ x.state
unfolding step
step_keeps s x h = pick_of (λ (y : Course). y.state ≡ x.state) x.progress.going (λ _. h) (λ _. refl)

run_keeps : (ss : List Step) → Still ss → (x : Course) → (run ss x).state ≡ x.state
unfolding run
run_keeps _ ends x = refl
run_keeps _ (starts {c} {alone} {ss} h) x = run_keeps ss h _ ∙ step_keeps (start c [] alone) x (start_keeps c alone x.state x.progress.acts)
run_keeps _ (audits {c} {ss} e h) x = run_keeps ss h _ ∙ step_keeps (command_step c) x (audit_keeps c e x.state x.progress.acts)

orders_still : (cs : List Command) (rest : List Step) → Audits cs → Still rest → Still (command_steps cs rest)
unfolding command_steps
orders_still _ rest no_more h = h
orders_still _ rest (more {c} {cs} e k) h = audits e (orders_still cs rest k h)

steps_still : (acts : List Action) → OnlyAudits acts → Still (steps acts)
unfolding steps
steps_still _ no_more = ends
steps_still _ (more {c} {cs} {acts} k h) = starts (orders_still cs (steps acts) k (steps_still acts h))

pub transaction_stays : TransactionStays
unfolding run_transaction
transaction_stays id acts h st = run_keeps (steps acts) (steps_still acts h) (course st fresh)

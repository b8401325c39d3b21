-- What audits report: of each termination what the table holds.
use Rattle.std.specs.Prelude.{Ok, Err}
use Prim.Native.Nat.{ℕ, ◌-◌}
use mathlib.Core.Path.{◌≡◌, refl, sym, ap, ap₂, ◌∙◌, subst}
use mathlib.Core.Bool.{Bool, true, false, not}
use mathlib.Core.List.{List, [], ◌∷◌}
use mathlib.Core.Option.{Option, some}
use lib.Dec.{eqb}
use borrow.Author.Tests.{eqb-true, eq-eqb}
use Rattle.base.specs.Pick.{pick}
use Rattle.base.specs.Bytes.{text}
use Rattle.base.proofs.TestLaws.{pick_of, clash}
use Rattle.megaco.specs.Tree.{Items, Command, command}
use Rattle.megaco.specs.Table.{line_terminations, fitted, ctx, cell, prop, get, exists}
use Rattle.megaco.specs.State.{State, wrote, renewed}
use Rattle.megaco.specs.Blocks.{block_at}
use Rattle.megaco.specs.declared.Block.{Block}
use Rattle.megaco.specs.Names.{name_of, name_text}
use Rattle.megaco.specs.Items.{given?, judge_items}
use Rattle.megaco.specs.Reply.{nothing, Report, done, refused, failed}
use Rattle.megaco.specs.Attempt.{Check, check, judge, checks, seen, number_of, look, is_choose, settled, detail_of, told_of, concluded, effect, Effect}
use Rattle.megaco.specs.Command.{Outcome, attempts, command_error, action_error, Targets, no_target, gateway, targets, is_null, is_subtract, in_place, not_for_root, targets_of, run_targets, op_of, forbidden_in_null, no_context, from_test4, from_test2, unless_optional, from_test1, run_command}
use Rattle.protocol.specs.Types.{Context, Null, Numbered, Choose, All, Op, AuditValue, Name, Termination, Judged, Checked, Values}
use Rattle.audits.specs.Audits.{IsAudit, held_report, Honest, of_one, of_root, of_none, of_action_lem, AllHonest, no_more, more, ReportsHeld, ReportsNamed, reports_of}
use Rattle.audits.proofs.Keeping.{effect_keeps}

-- ---- one attempt

-- a context in which audits come to be tried: null or a number
pub settled_place : (at : Context) (held : ℕ) → no_context AuditValue at held ≡ false → is_choose at ≡ false
unfolding no_context is_choose in_place is_subtract
settled_place Null held e = refl
settled_place (Numbered c) held e = refl
settled_place Choose held e = absurd (clash e)
settled_place All held e = absurd (clash e)

module _ (wild : Bool) (name : List ℕ) (given : ℕ) (vs : Values) where
  -- what an attempt reports, by where the termination stands
  abbrev pub reported : Context → List ℕ → ℕ → Bool → Report
  reported at t i b = pick b (held_report vs t i) (refused AuditValue (pick wild (name_text (fitted t) i) name) 435)

  effect_reports : (i : ℕ) (at : Context) (t : List ℕ) (x : Block) → (effect AuditValue wild name given vs i at (look at i t) x).report ≡ reported at t i (eqb (get t (ctx i)) (number_of at))
  unfolding effect checks judge look
  effect_reports i at t x = by (eqb (get t (ctx i)) (number_of at))
    where
      by : (b : Bool) → (concluded AuditValue wild name given vs i at (look at i t) x (pick (not b) (Err 435) (Ok tt))).report ≡ reported at t i b
      by true = unfold concluded told_of pick in refl
      by false = unfold concluded pick in refl

  effect_at : (i : ℕ) (at : Context) (t : List ℕ) (b : Block) → is_choose at ≡ false → (effect AuditValue wild name given vs i at (look at i t) b).at ≡ at
  unfolding effect
  effect_at i at t b n = by (judge (checks AuditValue at i vs (look at i t)))
    where
      by : (x : Checked) → (concluded AuditValue wild name given vs i at (look at i t) b x).at ≡ at
      by (Ok tt) = unfold concluded settled pick in rw n
      by (Err code) = unfold concluded in refl

  pub attempts_report : (is : List ℕ) (at : Context) (st : State) → is_choose at ≡ false
      → (attempts AuditValue wild name given vs is at st).reports ≡ reports_of (λ i. reported at st.table i (eqb (get st.table (ctx i)) (number_of at))) is
  unfolding attempts
  attempts_report [] at st n = refl
  attempts_report (i ∷ is) at st n =
      let b : Block = block_at (i - line_terminations (fitted st.table)) st.blocks in
      let e : Effect = effect AuditValue wild name given vs i at (look at i st.table) b in
      let r : Context → State → List Report = λ c u. (attempts AuditValue wild name given vs is c u).reports in
      let same : r e.at (renewed e.blocks (wrote e.writes st)) ≡ r at st = ap₂ r (effect_at i at st.table b n) (effect_keeps wild name given vs i at st) in
      ap₂ (λ (x : Report) (xs : List Report). x ∷ xs) (effect_reports i at st.table b) (same ∙ attempts_report is at st n)

  -- ---- all are honest

  one_honest : (at : Context) (t : List ℕ) (i : ℕ) (b : Bool) → eqb (get t (ctx i)) (number_of at) ≡ b → Honest at t (reported at t i b)
  unfolding pick
  one_honest at t i true e = of_one vs i (eqb-true (get t (ctx i)) (number_of at) e)
  one_honest at t i false e = of_none _ 435

  all_honest : (at : Context) (t : List ℕ) (is : List ℕ) → AllHonest at t (reports_of (λ i. reported at t i (eqb (get t (ctx i)) (number_of at))) is)
  all_honest at t [] = no_more
  all_honest at t (i ∷ is) = more (one_honest at t i (eqb (get t (ctx i)) (number_of at)) refl) (all_honest at t is)

targets_honest : (name : List ℕ) (given : ℕ) (vs : Values) (a : Targets) (at : Context) (st : State) → is_choose at ≡ false → AllHonest at st.table (run_targets AuditValue name given vs a at st).reports
unfolding run_targets command_error
targets_honest name given vs (no_target code) at st n = more (of_none name code) no_more
targets_honest name given vs gateway at st n = more of_root no_more
targets_honest name given vs (targets wild is) at st n =
    subst (AllHonest at st.table) (sym (attempts_report wild name given vs is at st n)) (all_honest wild name given vs at st.table is)

test4_honest : (name : List ℕ) (given : ℕ) (items : Bool) (j : Judged) (at : Context) (st : State) → is_choose at ≡ false → AllHonest at st.table (from_test4 AuditValue name given items j at st).reports
unfolding from_test4 command_error
test4_honest name given items (Err code) at st n = more (of_none name code) no_more
test4_honest name given items (Ok vs) at st n = targets_honest name given vs _ at st n

test1_honest : (o : Bool) (name : List ℕ) (items : Items) (given : ℕ) (at : Context) (st : State) → AllHonest at st.table (from_test1 o (some AuditValue) name items given at st).reports
unfolding from_test1 action_error unless_optional from_test2 command_error
test1_honest o name items given at st =
    pick_of (λ (x : Outcome). AllHonest at st.table x.reports) (forbidden_in_null AuditValue at) (λ _. more (of_action_lem 421) no_more)
    (λ _. pick_of (λ (x : Outcome). AllHonest at st.table x.reports) (no_context AuditValue at (seen (number_of at) st.table).held) (λ _. more (of_none name 411) no_more)
    (λ l. test4_honest name given _ _ at st (settled_place at _ l)))

pub reports_held : ReportsHeld
unfolding run_command
reports_held (command o w word name items) e given at st =
    subst (λ (op : Option Op). AllHonest at st.table (from_test1 o op name items given at st).reports) (sym e) (test1_honest o name items given at st)

-- ---- a command that comes to its attempts

never_421 : (at : Context) → forbidden_in_null AuditValue at ≡ false
unfolding forbidden_in_null is_null in_place
never_421 Null = refl
never_421 (Numbered c) = refl
never_421 Choose = refl
never_421 All = refl

-- tests 1 to 3 passed
pub targets_run : (o w : Bool) (word name : List ℕ) (items : Items) (vs : Values) (given : ℕ) (at : Context) (st : State) → op_of w word ≡ some AuditValue
    → no_context AuditValue at (seen (number_of at) st.table).held ≡ false → judge_items AuditValue items ≡ Ok vs
    → (run_command (command o w word name items) given at st).reports
    ≡ (run_targets AuditValue name given vs (targets_of AuditValue at (not_for_root AuditValue (given? items) vs) (name_of (fitted st.table) name) st.table) at st).reports
unfolding run_command from_test1 from_test2 from_test4 unless_optional pick
targets_run o w word name items vs given at st e l j = rw (e, never_421 at, l, j)

pub reports_named : ReportsNamed
unfolding targets_of run_targets pick
reports_named o w word name items vs given at st i e l j n x h =
    targets_run o w word name items vs given at st e l j
    ∙ rw (n, x) (attempts_report false name given vs (i ∷ []) at st (settled_place at _ l) ∙ rw (eq-eqb (get st.table (ctx i)) (number_of at) h))

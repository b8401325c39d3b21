-- What the tests of a command come to.
use Rattle.std.specs.Prelude.{Some, None, Ok, Err}
use Prim.Native.Nat.{ℕ}
use mathlib.Core.Path.{◌≡◌, refl, ap, ◌∙◌, subst}
use mathlib.Core.List.{List}
use mathlib.Core.Option.{none, some}
use mathlib.Core.Bool.{Bool, true, false}
use Rattle.base.specs.Pick.{pick}
use Rattle.megaco.specs.Table.{fitted, known, rec, cell, get}
use Rattle.megaco.specs.State.{State, state}
use Rattle.megaco.specs.Names.{name_of}
use Rattle.megaco.specs.Attempt.{seen, number_of}
use Rattle.megaco.specs.Command.{op_of, command_error, targets_of, run_targets, not_for_root, from_test4}
use Rattle.megaco.specs.Keywords.{is_token, meaning_of}
use Rattle.megaco.proofs.Meanings.{spells_means, spells_none}
use Rattle.keywords.proofs.RowLaws.{token_some, token_none}
use Rattle.keywords.specs.Page.{token_of}
use Rattle.keywords.specs.Page.{Meaning}
use Rattle.protocol.specs.Types.{Token, AddToken, ModifyToken, SubtractToken, MoveToken, AuditValueToken, Context, Op, Add, Modify, Subtract, Move, AuditValue, Judged, Values, Name}
use Rattle.protocol.specs.Ranges.{InRange, JudgedInRange, right}
use Rattle.targets.specs.Targets.{target_of, targets_in}
use Rattle.targets.proofs.TargetLaws.{target_is}
use Rattle.targets.specs.declared.Target.{Target}
use Rattle.run_attempts.specs.Contract.{RunsTo, CommandFailed}
use Rattle.run_attempts.specs.declared.Turn.{Turn}
use Rattle.run_attempts.specs.declared.CommandOutcome.{CommandOutcome}
use Rattle.command_tests.specs.CommandTests.{found_of, op_by, held_at}
use Rattle.command_tests.specs.Found.{Found}

-- ---- words

pub op_wild : (wild : Bool) (w : List ℕ) → wild ≡ true → found_of None ≡ op_of wild w
unfolding op_of found_of
op_wild wild w e = rw e

op_any : (k : Token)
    → found_of (op_by k) ≡ pick (is_token AddToken k) (some Add) (pick (is_token ModifyToken k) (some Modify) (pick (is_token SubtractToken k) (some Subtract) (pick (is_token MoveToken k) (some Move) (pick (is_token AuditValueToken k) (some AuditValue) none))))
unfolding found_of op_by pick
op_any k = by (is_token AddToken k) (is_token ModifyToken k) (is_token SubtractToken k) (is_token MoveToken k) (is_token AuditValueToken k)
  where
    by : (a m s v u : Bool)
        → found_of (pick a (Some Add) (pick m (Some Modify) (pick s (Some Subtract) (pick v (Some Move) (pick u (Some AuditValue) None))))) ≡ pick a (some Add) (pick m (some Modify) (pick s (some Subtract) (pick v (some Move) (pick u (some AuditValue) none))))
    by true m s v u = refl
    by false true s v u = refl
    by false false true v u = refl
    by false false false true u = refl
    by false false false false true = refl
    by false false false false false = refl

module _ (wild : Bool) (w : List ℕ) (m : Meaning) (e : wild ≡ false) (h : token_of m ≡ meaning_of w) where
  pub op_of_token : (k : Token) (r : Found) → m ≡ Some k → r ≡ op_by k → found_of r ≡ op_of wild w
  unfolding op_of
  op_of_token k r g q =
      let z : meaning_of w ≡ some k = token_some w m k h g in
      rw (e, q, spells_means AddToken k w z, spells_means ModifyToken k w z, spells_means SubtractToken k w z, spells_means MoveToken k w z, spells_means AuditValueToken k w z) (op_any k)

  pub op_of_none : m ≡ None → found_of None ≡ op_of wild w
  unfolding op_of found_of pick
  op_of_none g =
      let z : meaning_of w ≡ none = token_none w m h g in
      rw (e, spells_none AddToken w z, spells_none ModifyToken w z, spells_none SubtractToken w z, spells_none MoveToken w z, spells_none AuditValueToken w z)

-- ---- the record of the action's context

module _ (t : List ℕ) (n : ℕ) (x : Bool) (k : x ≡ known n) where
  seen_known : x ≡ true → get t (cell (rec n)) ≡ (seen n t).held
  unfolding seen pick
  seen_known h = rw (← k, h)

  seen_none : x ≡ false → 0 ≡ (seen n t).held
  unfolding seen pick
  seen_none h = rw (← k, h)

module _ (at : Context) (t : List ℕ) (n : ℕ) (x : Bool) (e : n ≡ number_of at) (k : x ≡ known n) where
  pub held_known : (r : ℕ) → x ≡ true → r ≡ get t (cell (rec n)) → r ≡ held_at at t
  unfolding held_at
  held_known r h q = q ∙ seen_known t n x k h ∙ ap (λ (m : ℕ). (seen m t).held) e

  pub held_none : x ≡ false → 0 ≡ held_at at t
  unfolding held_at
  held_none h = seen_none t n x k h ∙ ap (λ (m : ℕ). (seen m t).held) e

-- ---- a command's tests

module _ (op : Op) (name : List ℕ) (items : Bool) (given : ℕ) (at : Context) (first : Bool) (t bs o : List ℕ) (p : ℕ) (t' : State) (o' : List ℕ) where
  pub named_targets : (vs : Values) (k : ℕ) (n : Name) (b : Bool) (x : Target) (w : CommandOutcome) → k ≡ fitted t → n ≡ name_of k name → b ≡ not_for_root op items vs → x ≡ target_of op at b n t
      → RunsTo (run_targets op name given vs (targets_in x op at t) at (state t bs)) first o p t' o' w → RunsTo (from_test4 op name given items (Ok vs) at (state t bs)) first o p t' o' w
  unfolding from_test4
  named_targets vs k n b x w l e g f d =
      subst (λ (a : Rattle.megaco.specs.Command.Targets). RunsTo (run_targets op name given vs a at (state t bs)) first o p t' o' w)
      (ap (λ (y : Target). targets_in y op at t) f ∙ target_is op at t b n ∙ ap (λ (m : Name). targets_of op at b m t) (e ∙ ap (λ (j : ℕ). name_of j name) l) ∙ ap (λ (z : Bool). targets_of op at z (name_of (fitted t) name) t) g) d

  pub judged_right : (j : Judged) (vs : Values) (w : CommandOutcome) → j ≡ Ok vs → RunsTo (from_test4 op name given items (Ok vs) at (state t bs)) first o p t' o' w
      → RunsTo (from_test4 op name given items j at (state t bs)) first o p t' o' w
  judged_right j vs w e d = rw e d

pub judged_wrong : (op : Op) (name : List ℕ) (items : Bool) (turn : Turn) (t : State) (o o' : List ℕ) (j : Judged) (code : ℕ) (w : CommandOutcome) → j ≡ Err code → CommandFailed op name code turn o o' w
    → RunsTo (from_test4 op name turn.given items j turn.at t) turn.first o turn.next t o' w
unfolding from_test4 command_error
judged_wrong op name items turn t o o' j code w e m = rw e (record { state = refl; text = m.text; place = m.place; going = m.going })

pub right_in_range : (j : Judged) (vs : Values) → j ≡ Ok vs → JudgedInRange j → InRange vs
right_in_range j vs e f = by (rw e at f)
  where
    by : JudgedInRange (Ok vs) → InRange vs
    by (right g) = g

-- The laws by which `search tests` follows the tests of the code, and what tests that are passed tell.
use Rattle.std.specs.Prelude.{Ok, Err}
use Prim.Native.Nat.{ℕ}
use mathlib.Core.Path.{◌≡◌, refl, sym, ◌∙◌}
use mathlib.Core.List.{List, [], ◌∷◌}
use mathlib.Core.Bool.{Bool, true, false, not, ◌&&◌, ◌||◌}
use native.Mathlib.Omega.{arith}
use lib.Dec.{eqb}
use borrow.Author.Tests.{eq-eqb, ne_eqb, le-leb, lt-leb}
use Rattle.base.specs.Pick.{pick}
use Rattle.megaco.specs.Table.{state_of, is_ephemeral}
use Rattle.megaco.specs.Attempt.{Check, check, judge, number_of, speaks, on_line, room_checks, checks}
use Rattle.protocol.specs.Types.{Op, Add, Modify, Subtract, Move, AuditValue, Context, Checked, Speech, Kept, Released, Session, Values, View}

-- ---- the tests in turn

pub fails_here : (b : Bool) (code : ℕ) (cs : List Check) → b ≡ true → Err code ≡ judge (check b code ∷ cs)
unfolding judge pick
fails_here b code cs e = rw e

pub next_test : (b : Bool) (code : ℕ) (r : Checked) (cs : List Check) → b ≡ false → r ≡ judge cs → r ≡ judge (check b code ∷ cs)
unfolding judge pick
next_test b code r cs e p = rw e p

pub no_test : (Ok tt) ≡ judge []
unfolding judge
no_test = refl

pub not_yes : (a b : ℕ) → (a ≡ b → ⊥) → not (eqb a b) ≡ true
not_yes a b h = rw (ne_eqb a b h)

pub not_no : (a b : ℕ) → a ≡ b → not (eqb a b) ≡ false
not_no a b e = rw (eq-eqb a b e)

-- the first test is passed where all are
pub passed_first : (b : Bool) (code : ℕ) (cs : List Check) → judge (check b code ∷ cs) ≡ Ok tt → (b ≡ false) × (judge cs ≡ Ok tt)
unfolding judge pick
passed_first true code cs e = absurd (let z : ◌≡◌ {A = ℕ} 0 1 = cc in omega arith)
passed_first false code cs e = (refl, e)

-- the tests of each command; n is the number of the action's context
module _ (op : Op) (at : Context) (i : ℕ) (vs : Values) (v : View) (r : Checked) (n : ℕ) where
  pub test_add : op ≡ Add → r ≡ judge (check (not (eqb v.here 0)) 433 ∷ check (on_line v.lines i vs) 447 ∷ room_checks at v) → r ≡ judge (checks op at i vs v)
  unfolding checks
  test_add e p = rw e p

  pub test_modify : op ≡ Modify → n ≡ number_of at → r ≡ judge (check (not (eqb v.here n)) 435 ∷ check (on_line v.lines i vs) 447 ∷ []) → r ≡ judge (checks op at i vs v)
  unfolding checks
  test_modify e f p = rw (e, ← f) p

  pub test_subtract : op ≡ Subtract → n ≡ number_of at → r ≡ judge (check (not (eqb v.here n)) 435 ∷ []) → r ≡ judge (checks op at i vs v)
  unfolding checks
  test_subtract e f p = rw (e, ← f) p

  pub test_move : op ≡ Move → n ≡ number_of at
      → r ≡ judge (check (eqb v.here 0) 435 ∷ check (eqb v.here n) 433 ∷ check (eqb (state_of v.word) 1) 503 ∷ check (on_line v.lines i vs) 447 ∷ room_checks at v) → r ≡ judge (checks op at i vs v)
  unfolding checks
  test_move e f p = rw (e, ← f) p

  pub test_audit : op ≡ AuditValue → n ≡ number_of at → r ≡ judge (check (not (eqb v.here n)) 435 ∷ []) → r ≡ judge (checks op at i vs v)
  unfolding checks
  test_audit e f p = rw (e, ← f) p

-- what a call told
pub by_answer : (x y v : Bool) → x ≡ y → x ≡ v → y ≡ v
by_answer x y v e f = sym e ∙ f

module _ (s : Speech) where
  pub speaks_kept : s ≡ Kept → false ≡ speaks s
  unfolding speaks
  speaks_kept e = rw e

  pub speaks_released : s ≡ Released → true ≡ speaks s
  unfolding speaks
  speaks_released e = rw e

  pub speaks_session : (a p k : ℕ) → s ≡ Session a p k → true ≡ speaks s
  unfolding speaks
  speaks_session a p k e = rw e

pub on_line_by : (n i : ℕ) (vs : Values) (x y z : Bool) → x ≡ is_ephemeral n i → y ≡ speaks vs.local → z ≡ speaks vs.remote → (not x && (y || z)) ≡ on_line n i vs
unfolding on_line
on_line_by n i vs x y z e f g = rw (e, f, g)

pub by_call : (x y b v : Bool) → x ≡ y → (x && b) ≡ v → (y && b) ≡ v
by_call x y b v e f = rw e at f

pub ruleset tests = (by_answer, fails_here, next_test, no_test, not_yes, not_no, eq-eqb, ne_eqb, le-leb, lt-leb)

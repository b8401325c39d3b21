-- A command's tests in order.
use Rattle.std.specs.Prelude.{Some, None}
use Prim.Native.Nat.{ℕ, ◌-◌}
use mathlib.Core.Path.{◌≡◌, refl, sym, ap, ◌∙◌}
use mathlib.Core.List.{List}
use mathlib.Core.Option.{Option, some}
use mathlib.Core.Bool.{Bool, true, false, ◌||◌}
use lib.ListN.{take, drop}
use Rattle.std.specs.Option.{is_some}
use Rattle.base.specs.Pick.{pick}
use Rattle.base.specs.Lists.{part}
use Rattle.megaco.specs.Items.{judge_items, given?}
use Rattle.megaco.specs.State.{State}
use Rattle.megaco.specs.Tree.{Items}
use Rattle.megaco.specs.Attempt.{seen, number_of}
use Rattle.megaco.specs.Command.{Outcome, op_of, no_context, forbidden_in_null, command_error, action_error, from_test4, from_test2, unless_optional, from_test1, run_command}
use Rattle.protocol.specs.Types.{Op, Judged, Parsed}
use Rattle.protocol.specs.Ranges.{JudgedInRange}
use Rattle.laws.proofs.Values.{items_in_range}
use Rattle.read_command.specs.Places.{command_at}
use Rattle.command_places.specs.Found.{held_in, items_from, command_from, OfCommand}
use Rattle.command_places.proofs.PlaceLaws.{command_is}
use Rattle.command_places.specs.declared.CommandPlaces.{CommandPlaces}
use Rattle.run_attempts.specs.Contract.{RunsTo, CommandFailed}
use Rattle.run_attempts.specs.declared.Turn.{Turn}
use Rattle.run_attempts.specs.declared.CommandOutcome.{CommandOutcome}
use Rattle.command_tests.specs.CommandTests.{found_of, held_at}
use Rattle.command_tests.specs.Found.{Found}
use Rattle.run_command.specs.Fails.{optionally, Failed}

-- whether items stand in braces
given_held : {A : Type 0} (f : ℕ → A) (o : Parsed) → given? (held_in f o) ≡ is_some o
unfolding held_in given?
given_held f None = refl
given_held f (Some i) = refl

items_given : (s : List ℕ) (r : CommandPlaces) → given? (items_from s r) ≡ is_some r.inside
unfolding items_from
items_given s r = given_held _ r.inside

module _ (s : List ℕ) (r : CommandPlaces) (op : Op) (name : List ℕ) (turn : Turn) (t : State) (o : List ℕ) (t' : State) (o' : List ℕ) where
  abbrev tests : Outcome
  tests = from_test2 op name (items_from s r) turn.given turn.at t

  abbrev orders : Bool → Option Op → Outcome
  orders o? x = from_test1 o? x name (items_from s r) turn.given turn.at t

  pub tested_411 : (held : ℕ) (x : Bool) (w : CommandOutcome) → held ≡ held_at turn.at t.table → x ≡ no_context op turn.at held → x ≡ true → CommandFailed op name 411 turn o o' w
      → RunsTo tests turn.first o turn.next t o' w
  unfolding from_test2 held_at command_error pick
  tested_411 held x w e f g m =
      let h : no_context op turn.at (seen (number_of turn.at) t.table).held ≡ true = ap (no_context op turn.at) (sym e) ∙ sym f ∙ g in
      rw h (record { state = refl; text = m.text; place = m.place; going = m.going })

  pub tested_on : (held : ℕ) (x b : Bool) (j : Judged) (w : CommandOutcome) → held ≡ held_at turn.at t.table → x ≡ no_context op turn.at held → x ≡ false → j ≡ judge_items op (items_from s r) → b ≡ is_some r.inside
      → RunsTo (from_test4 op name turn.given b j turn.at t) turn.first o turn.next t' o' w → RunsTo tests turn.first o turn.next t' o' w
  unfolding from_test2 held_at pick
  tested_on held x b j w e f g k i d =
      let z : no_context op turn.at (seen (number_of turn.at) t.table).held ≡ false = ap (no_context op turn.at) (sym e) ∙ sym f ∙ g in
      rw z (rw (items_given s r, ← i, ← k) d)

  pub built_421 : (o? x : Bool) (w : CommandOutcome) → x ≡ forbidden_in_null op turn.at → x ≡ true → Failed 421 turn o o' w → RunsTo (orders o? (some op)) turn.first o turn.next t o' w
  unfolding from_test1 action_error pick
  built_421 o? x w e f a = rw (sym e ∙ f) (record { state = refl; text = a.text; place = a.place; going = a.going })

  pub built_on : (o? x : Bool) (w v : CommandOutcome) → x ≡ forbidden_in_null op turn.at → x ≡ false → RunsTo tests turn.first o turn.next t' o' w → v ≡ optionally o? w
      → RunsTo (orders o? (some op)) turn.first o turn.next t' o' v
  unfolding from_test1 unless_optional optionally pick
  built_on o? x w v e f d q = rw (sym e ∙ f, q) (record { state = d.state; text = d.text; place = d.place; going = ap (λ (g : Bool). g || o?) d.going })

  pub found_built : (f : Found) (x : Option Op) (w : CommandOutcome) → found_of f ≡ x → f ≡ Some op → RunsTo (orders r.optional (some op)) turn.first o turn.next t' o' w
      → RunsTo (orders r.optional x) turn.first o turn.next t' o' w
  unfolding found_of
  found_built f x w e g d = rw (sym e ∙ ap found_of g) d

pub found_unbuilt : (s : List ℕ) (r : CommandPlaces) (name : List ℕ) (turn : Turn) (t : State) (o o' : List ℕ) (f : Found) (x : Option Op) (w : CommandOutcome) → found_of f ≡ x → f ≡ None → Failed 443 turn o o' w
    → RunsTo (from_test1 r.optional x name (items_from s r) turn.given turn.at t) turn.first o turn.next t o' w
unfolding found_of from_test1 action_error
found_unbuilt s r name turn t o o' f x w e g a = rw (sym e ∙ ap found_of g) (record { state = refl; text = a.text; place = a.place; going = a.going })

pub command_runs : (s : List ℕ) (i : ℕ) (r : CommandPlaces) (turn : Turn) (t : State) (o : List ℕ) (t' : State) (o' : List ℕ) (w : CommandOutcome) → OfCommand s i r
    → RunsTo
    (from_test1 r.optional (op_of r.wild (take (r.word.to - r.word.from) (drop r.word.from s))) (take (r.name.to - r.name.from) (drop r.name.from s)) (items_from s r) turn.given turn.at t)
    turn.first o turn.next t' o' w
    → RunsTo (run_command (command_at s i).tree turn.given turn.at t) turn.first o turn.next t' o' w
unfolding run_command command_from part
command_runs s i r turn t o t' o' w f d = rw (command_is s i r f) d

-- what items give is a mode and a state
pub items_judged : (op : Op) (is : Items) (j : Judged) → j ≡ judge_items op is → JudgedInRange j
items_judged op is j e = rw e (items_in_range op is)

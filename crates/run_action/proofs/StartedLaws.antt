-- An action from its start on.
use Rattle.std.specs.Prelude.{Ok, Err}
use Prim.Native.Nat.{ℕ, ◌<◌, ◌≤◌}
use mathlib.Core.Path.{◌≡◌, refl, sym, ap, ◌∙◌, subst}
use mathlib.Core.List.{List, [], ◌∷◌, ◌++◌}
use mathlib.Core.Bool.{Bool, true, false, not}
use lib.Dec.{ltb, leb}
use borrow.Author.Tests.{ltb-true, leb-true}
use native.Mathlib.Omega.{arith}
use Rattle.base.specs.Pick.{pick}
use Rattle.base.specs.Out.{Appended}
use Rattle.base.proofs.TestLaws.{and_both}
use Rattle.megaco.specs.Table.{Sized, contexts, sound, known, cell, rec, get, Write, apply}
use Rattle.megaco.specs.Reading.{is_property, word_here}
use Rattle.megaco.specs.State.{State, state}
use Rattle.megaco.specs.Tree.{Command, Property, action}
use Rattle.megaco.specs.Topology.{triples_of, any_topology, Link, links_of}
use Rattle.megaco.specs.Reply.{standing, failed, reports_text}
use Rattle.megaco.specs.Attempt.{judge, seen, number_of}
use Rattle.megaco.specs.Command.{Outcome, outcome}
use Rattle.megaco.specs.Action.{any_given, new_record, set_properties, start_checks, start_writes, start_reports, started_by, started}
use Rattle.megaco.specs.Transaction.{no_commands}
use Rattle.protocol.specs.Types.{Context, Checked}
use Rattle.read_command.specs.Production.{list_of}
use Rattle.read_command.specs.Places.{commands_at, commands_in, body_end}
use Rattle.read_command.specs.declared.Rest.{Rest}
use Rattle.command_tests.specs.CommandTests.{held_at}
use Rattle.topology.specs.Links.{flows_after}
use Rattle.start_action.specs.declared.Tested.{Tested}
use Rattle.start_action.specs.Starting.{properties_in, judged_start, linked, Tests, wrote_start, given_by}
use Rattle.start_action.specs.declared.PropertiesRead.{PropertiesRead}
use Rattle.start_action.proofs.StartLaws.{given_over, given_fresh, given_held, start_writes_is, start_tests_are, start_over, any_given_lem}
use Rattle.run_command.specs.Fails.{Failed}
use Rattle.laws.proofs.Sound.{sound_whole}
use Rattle.run_attempts.specs.Contract.{RunsTo}
use Rattle.run_attempts.specs.declared.Turn.{Turn}
use Rattle.run_attempts.specs.declared.CommandOutcome.{CommandOutcome}
use Rattle.run_attempts.proofs.RunsToLaws.{command_outcome}
use Rattle.run_action.specs.Fold.{run_commands, after_start, run_action}
use Rattle.run_action.proofs.Lists.{picked, left_out}

-- there are no commands where none follow
some_commands : (s : List ℕ) (at : ℕ) → no_commands (commands_at s at).tree ≡ false
unfolding commands_at list_of no_commands
some_commands s at = refl

alone_is : (s : List ℕ) (r : Rest) → no_commands (commands_in s r) ≡ not r.commands
unfolding commands_in
alone_is s r = by r.commands
  where
    by : (b : Bool) → no_commands (pick b (commands_at s r.at).tree []) ≡ not b
    by true = ap no_commands (picked true (commands_at s r.at).tree [] refl) ∙ some_commands s r.at
    by false = ap no_commands (left_out false (commands_at s r.at).tree [] refl) ∙ (unfold no_commands in refl)

-- an action by what its start is judged
module _ (c : Context) (ps : List Property) (cs : List Command) (t bs : List ℕ) where
  -- the triples with their names looked up
  abbrev links : List Link
  links = links_of (number_of c) t (triples_of ps)

  action_refused : (code : ℕ) → judge (start_checks c ps (no_commands cs) (seen (number_of c) t) links) ≡ Err code
      → run_action (action c ps cs) (state t bs) ≡ outcome (state t bs) (failed code ∷ []) c false
  unfolding run_action started started_by after_start held_at apply pick
  action_refused code e = rw e

  action_done : judge (start_checks c ps (no_commands cs) (seen (number_of c) t) links) ≡ Ok tt
      → run_action (action c ps cs) (state t bs)
      ≡ (let x = run_commands cs (set_properties ps new_record) c (state (apply (start_writes c ps (seen (number_of c) t) links) t) bs) in
      outcome x.state (start_reports ps (no_commands cs) (held_at c t) ++ x.reports) x.at x.going)
  unfolding run_action started started_by after_start held_at pick
  action_done e = rw e

no_runs : (given : ℕ) (c : Context) (t : State) → run_commands [] given c t ≡ outcome t [] c true
unfolding run_commands
no_runs given c t = refl

reports_alone : (ps : List Property) (held : ℕ) → start_reports ps true held ≡ standing (set_properties ps held) ∷ []
unfolding start_reports pick
reports_alone ps held = refl

reports_none : (ps : List Property) (held : ℕ) → start_reports ps false held ≡ []
unfolding start_reports pick
reports_none ps held = refl

module _ (s : List ℕ) (c : Context) (body : ℕ) (rest : Rest) (t bs o : List ℕ) (held : ℕ) (any : Bool) (g : PropertiesRead) (d : Tested) (e : held ≡ held_at c t)
    (f : any ≡ is_property (word_here s body)) (h : g ≡ given_by (properties_in s body) held) (k : Tests (properties_in s body) c t any g.over (not rest.commands) held d) where
  abbrev ps : List Property
  ps = properties_in s body

  abbrev cs : List Command
  cs = commands_in s rest

  abbrev x : Checked
  x = d.checked

  abbrev ls : List Link
  ls = links_of (number_of c) t (triples_of ps)

  any_is : any ≡ any_given ps
  any_is = f ∙ sym (any_given_lem s body)

  tests_are : x ≡ judge (start_checks c ps (no_commands cs) (seen (number_of c) t) ls)
  unfolding held_at
  tests_are =
      k.code ∙ (λ i. judged_start c (any_is i) (given_over ps held g h i) (any_topology ps) (sym (alone_is s rest) i) (e i) (linked c ps t))
      ∙ start_tests_are c ps (no_commands cs) t

  -- the turn in which an action starts
  abbrev starts : Turn
  starts = record { given = g.fresh; at = c; first = true; next = 0 }

  -- an action error
  pub inner_fails : (code : ℕ) (o' : List ℕ) (w : CommandOutcome) → x ≡ Err code → Failed code starts o o' w → RunsTo (run_action (action c ps cs) (state t bs)) true o 0 (state t bs) o' w
  inner_fails code o' w z a =
      rw (action_refused c ps cs t bs code (sym tests_are ∙ z)) (record { state = refl; text = a.text; place = a.place; going = a.going })

  passed : x ≡ Ok tt → judge (start_checks c ps (no_commands cs) (seen (number_of c) t) ls) ≡ Ok tt
  passed z = sym tests_are ∙ z

  small : x ≡ Ok tt → g.over ≡ false
  small z = given_over ps held g h ∙ start_over c ps (no_commands cs) (seen (number_of c) t) ls (passed z)

  wrote : (u : List ℕ) → x ≡ Ok tt → u ≡ apply (wrote_start c any d.topology g.held (flows_after ps (number_of c) t)) t
      → u ≡ apply (start_writes c ps (seen (number_of c) t) ls) t
  unfolding held_at
  wrote u z q =
      q
      ∙ ap (λ (ws : List Write). apply ws t)
      ((λ i. wrote_start c (any_is i) (k.given i) ((given_held ps held g h (small z) ∙ ap (set_properties ps) e) i) (flows_after ps (number_of c) t)) ∙ start_writes_is c ps t)

  -- commands follow
  pub inner_commands : (u : List ℕ) (t' : State) (o' : List ℕ) (w : CommandOutcome) → x ≡ Ok tt → u ≡ apply (wrote_start c any d.topology g.held (flows_after (properties_in s body) (number_of c) t)) t → rest.commands ≡ true
      → RunsTo (run_commands (commands_at s rest.at).tree g.fresh c (state u bs)) true o 0 t' o' w → RunsTo (run_action (action c ps cs) (state t bs)) true o 0 t' o' w
  inner_commands u t' o' w z q b w' =
      let l : cs ≡ (commands_at s rest.at).tree = (unfold commands_in in picked rest.commands (commands_at s rest.at).tree [] b) in
      let r : start_reports ps (no_commands cs) (held_at c t) ≡ [] = ap (λ (x : Bool). start_reports ps x (held_at c t)) (alone_is s rest ∙ ap not b) ∙ reports_none ps (held_at c t) in
      let a : Outcome = run_commands (commands_at s rest.at).tree g.fresh c (state u bs) in
      let y : Outcome = run_commands cs (set_properties ps new_record) c (state (apply (start_writes c ps (seen (number_of c) t) ls) t) bs) in
      let m : a ≡ y = λ i. run_commands (sym l i) (given_fresh ps held g h (small z) i) c (state (wrote u z q i) bs) in
      rw (action_done c ps cs t bs (passed z), r) (subst (λ (v : Outcome). RunsTo (outcome v.state v.reports v.at v.going) true o 0 t' o' w) m w')

  -- properties alone
  pub inner_alone : (u o' : List ℕ) (n : ℕ) → x ≡ Ok tt → u ≡ apply (wrote_start c any d.topology g.held (flows_after (properties_in s body) (number_of c) t)) t → rest.commands ≡ false
      → Appended o 0 (reports_text true (standing g.held ∷ [])) o' n → RunsTo (run_action (action c ps cs) (state t bs)) true o 0 (state u bs) o' (command_outcome n c true)
  inner_alone u o' n z q b a =
      let l : cs ≡ [] = (unfold commands_in in left_out rest.commands (commands_at s rest.at).tree [] b) in
      let r : start_reports ps (no_commands cs) (held_at c t) ≡ standing (set_properties ps (held_at c t)) ∷ [] =
      ap (λ (x : Bool). start_reports ps x (held_at c t)) (alone_is s rest ∙ ap not b) ∙ reports_alone ps (held_at c t) in
      let y : run_commands cs (set_properties ps new_record) c (state (apply (start_writes c ps (seen (number_of c) t) ls) t) bs) ≡ outcome (state (apply (start_writes c ps (seen (number_of c) t) ls) t) bs) [] c true =
      ap (λ (x : List Command). run_commands x (set_properties ps new_record) c (state (apply (start_writes c ps (seen (number_of c) t) ls) t) bs)) l ∙ no_runs (set_properties ps new_record) c (state (apply (start_writes c ps (seen (number_of c) t) ls) t) bs) in
      let v : g.held ≡ set_properties ps (held_at c t) = given_held ps held g h (small z) ∙ ap (set_properties ps) e in
      rw (action_done c ps cs t bs (passed z), y, r) (record { state = ap (λ (y : List ℕ). state y bs) (wrote u z q); text = rw (← v) a; place = refl; going = refl })

-- where an action's body ends
pub body_of_commands : (s : List ℕ) (r : Rest) (e : ℕ) → r.commands ≡ true → e ≡ (commands_at s r.at).end → e ≡ body_end s r
unfolding body_end
body_of_commands s r e b h = h ∙ sym (picked r.commands (commands_at s r.at).end r.at b)

pub body_alone : (s : List ℕ) (r : Rest) → r.commands ≡ false → r.at ≡ body_end s r
unfolding body_end
body_alone s r b = sym (left_out r.commands (commands_at s r.at).end r.at b)

-- a sound table's record
known_within : (n : ℕ) → known n ≡ true → (0 < n) × (n ≤ contexts)
unfolding known
known_within n e = let b = and_both (ltb 0 n) (leb n contexts) e in (ltb-true 0 n b.0, leb-true n contexts b.1)

pub held_small : (c : Context) (t : List ℕ) → sound t ≡ true → held_at c t ≤ 32
unfolding held_at seen pick
held_small c t h = by (known (number_of c)) refl
  where
    by : (b : Bool) → known (number_of c) ≡ b → held_at c t ≤ 32
    by true e =
        let b = known_within (number_of c) e in
        let r = (sound_whole t h).held (number_of c) b.0 b.1 in
        let q : get t (cell (rec (number_of c))) ≤ 32 = omega arith in
        rw (e, held_at, seen) q
    by false e = rw (e, held_at, seen) (omega arith)

pub sound_sized : (t : List ℕ) → sound t ≡ true → Sized t
sound_sized t h = let W = sound_whole t h in record { some = W.some; few = W.few; long = W.long }

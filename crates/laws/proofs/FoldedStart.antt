-- An action whose topology is folded into one descriptor (document 02, CR 7): it starts as it did, writes and reports the same, and is refused exactly
-- when it was, if with another code.
use Rattle.std.specs.Prelude.{Err}
use Prim.Native.Nat.{ℕ, ◌<◌}
use mathlib.Core.Path.{◌≡◌, refl, sym, ap, ◌∙◌}
use mathlib.Core.Bool.{Bool, true, false, ◌&&◌, ◌||◌}
use mathlib.Core.List.{List, [], ◌∷◌, ◌++◌}
use lib.Dec.{ltb, eqb}
use Rattle.base.specs.Pick.{pick}
use Rattle.megaco.specs.Tree.{Triple, Property, priority, emergency, topology, Command, Action, action, transaction}
use Rattle.megaco.specs.Table.{Write, write, cell, rec, sound}
use Rattle.megaco.specs.State.{State, wrote}
use Rattle.megaco.specs.Reply.{Acted, transaction_text}
use Rattle.megaco.specs.Topology.{triples_of, any_topology, Link, links_of, set_links}
use Rattle.megaco.specs.Attempt.{Check, check, judge, seen, flows_of, flowing, number_of}
use Rattle.megaco.specs.Action.{over15, any_given, start_checks, new_record, set_properties, flow_writes, start_writes, start_reports, Start, started_by, started}
use Rattle.megaco.specs.Transaction.{start, command_steps, no_commands, steps, Course, begin, proceed, step, run, ran, run_transaction}
use Rattle.protocol.specs.Types.{Context, Null, Numbered, Choose, All, Seen}
use Rattle.megaco.proofs.Squares.{shape_of}
use Rattle.laws.specs.Passed.{Passed}
use Rattle.laws.specs.Sound.{Whole}
use Rattle.laws.specs.Folding.{untied, folded, merged}
use Rattle.laws.proofs.Passed.{passes}
use Rattle.laws.proofs.Properties.{given_any}
use Rattle.laws.proofs.Sound.{sound_whole}
use Rattle.laws.proofs.Attempts.{both_known, seen_there}
use Rattle.laws.proofs.Linked.{AllFine, passed_fine}
use Rattle.laws.proofs.Starts.{start_there}
use Rattle.laws.proofs.Folding.{fine_passed, fine_folded, folded_fine, fold_sets}

-- ---- what the other properties say stays

triples_untied : (ps : List Property) → triples_of (untied ps) ≡ []
unfolding untied triples_of
triples_untied [] = refl
triples_untied (priority n ∷ ps) = triples_untied ps
triples_untied (emergency ∷ ps) = triples_untied ps
triples_untied (topology ts ∷ ps) = triples_untied ps

append_none : (ts : List Triple) → ts ++ [] ≡ ts
append_none [] = refl
append_none (x ∷ ts) = ap (λ (l : List Triple). x ∷ l) (append_none ts)

merged_triples : (ps : List Property) → triples_of (merged ps) ≡ folded (triples_of ps)
unfolding merged triples_of
merged_triples ps = ap (λ (l : List Triple). folded (triples_of ps) ++ l) (triples_untied ps) ∙ append_none (folded (triples_of ps))

over_untied : (ps : List Property) → over15 (untied ps) ≡ over15 ps
unfolding untied over15
over_untied [] = refl
over_untied (priority n ∷ ps) = ap (λ (b : Bool). ltb 15 n || b) (over_untied ps)
over_untied (emergency ∷ ps) = over_untied ps
over_untied (topology ts ∷ ps) = over_untied ps

merged_over : (ps : List Property) → over15 (merged ps) ≡ over15 ps
unfolding merged over15
merged_over ps = over_untied ps

set_untied : (ps : List Property) (r : ℕ) → set_properties (untied ps) r ≡ set_properties ps r
unfolding untied set_properties
set_untied [] r = refl
set_untied (priority n ∷ ps) r = set_untied ps _
set_untied (emergency ∷ ps) r = set_untied ps _
set_untied (topology ts ∷ ps) r = set_untied ps r

merged_set : (ps : List Property) (r : ℕ) → set_properties (merged ps) r ≡ set_properties ps r
unfolding merged set_properties
merged_set ps r = set_untied ps r

merged_given : (ps : List Property) → any_given (merged ps) ≡ true
unfolding merged any_given
merged_given ps = refl

merged_any : (ps : List Property) → any_topology (merged ps) ≡ true
unfolding merged any_topology
merged_any ps = refl

-- ---- the start

module _ (c : ℕ) (ps : List Property) (alone : Bool) (t : List ℕ) (W : Whole t) (e : any_topology ps ≡ true)
    (p : Passed (start_checks (Numbered c) ps alone (seen c t) (links_of c t (triples_of ps)))) where
  there : Seen
  there = seen c t

  -- the context exists
  here : 0 < (seen c t).held
  here = start_there c ps alone (seen c t) (links_of c t (triples_of ps)) p (given_any ps e)

  fine : AllFine c t (triples_of ps)
  unfolding start_checks
  fine = passed_fine c t (triples_of ps) p.1.1

  merged_links : links_of c t (triples_of (merged ps)) ≡ links_of c t (folded (triples_of ps))
  merged_links = ap (links_of c t) (merged_triples ps)

  -- the merged one passes its tests
  pub merged_passes : Passed (start_checks (Numbered c) (merged ps) alone (seen c t) (links_of c t (triples_of (merged ps))))
  unfolding start_checks
  merged_passes = rw (merged_links, merged_over ps, merged_given ps) (p.0, (rw (given_any ps e) at p.1.0, fine_passed c t (folded (triples_of ps)) (fine_folded c t (triples_of ps) fine)))

  sets : set_links (links_of c t (triples_of (merged ps))) (flows_of (seen c t)) ≡ set_links (links_of c t (triples_of ps)) (flows_of (seen c t))
  sets =
      let k = seen_there c t here in
      let s = W.held c k.0 k.1 in
      rw merged_links (fold_sets c t W.long (both_known c k.0 k.1) s.room (triples_of ps) (flows_of (seen c t)) (unfold flows_of in shape_of _ _) fine)

  writes_same : start_writes (Numbered c) (merged ps) (seen c t) (links_of c t (triples_of (merged ps))) ≡ start_writes (Numbered c) ps (seen c t) (links_of c t (triples_of ps))
  unfolding start_writes flow_writes pick
  writes_same =
      rw (merged_given ps, merged_any ps, given_any ps e, e)
      (λ j. write (cell (rec c)) (merged_set ps (seen c t).held j) ∷ flowing c (sets j) [])

  reports_same : start_reports (merged ps) alone (seen c t).held ≡ start_reports ps alone (seen c t).held
  unfolding start_reports
  reports_same = rw (merged_set ps (seen c t).held)

  -- "A partner folds several topology changes into one"
  pub merged_start : started (Numbered c) (merged ps) alone (seen c t) (links_of c t (triples_of (merged ps))) ≡ started (Numbered c) ps alone (seen c t) (links_of c t (triples_of ps))
  unfolding started started_by
  merged_start =
      rw (passes _ merged_passes, passes _ p)
      (λ j. record {
        writes = writes_same j;
        acted = record { at = Numbered c; given = merged_set ps new_record j; said = reports_same j };
        going = true;
      })

-- so the step is the same, whatever ran before
pub merged_step : (c : ℕ) (ps : List Property) (alone : Bool) (st : State) (acts : List Acted) → Whole st.table → any_topology ps ≡ true
    → Passed (start_checks (Numbered c) ps alone (seen c st.table) (links_of c st.table (triples_of ps)))
    → proceed (start (Numbered c) (merged ps) alone) st acts ≡ proceed (start (Numbered c) ps alone) st acts
unfolding proceed number_of
merged_step c ps alone st acts W e p = ap (λ (x : Start). begin x st acts) (merged_start c ps alone st.table W e p)

-- ---- a refused action

-- where the merged action passes its tests, the action does; with `merged-passes`, one is refused exactly when the other is
pub merged_refused : (c : ℕ) (ps : List Property) (alone : Bool) (t : List ℕ) → any_topology ps ≡ true
    → Passed (start_checks (Numbered c) (merged ps) alone (seen c t) (links_of c t (triples_of (merged ps))))
    → Passed (start_checks (Numbered c) ps alone (seen c t) (links_of c t (triples_of ps)))
unfolding start_checks
merged_refused c ps alone t e p = (
  sym (merged_over ps) ∙ p.0,
  (
    ap (λ (b : Bool). b && eqb (seen c t).held 0) (given_any ps e ∙ sym (merged_given ps)) ∙ p.1.0,
    fine_passed c t (triples_of ps) (folded_fine c t (triples_of ps) (passed_fine c t (folded (triples_of ps)) (rw (merged_triples ps) at p.1.1))),
  ),
)

-- what a start does to the table and to its transaction: all but the code of an error
pub record SameWrites (x y : Start) : Type 0 where
  pub writes : x.writes ≡ y.writes
  pub going : x.going ≡ y.going

-- tests pass, or come to a code
data PassOrFail (cs : List Check) : Type 0 where
  passed : Passed cs → PassOrFail cs
  failed : (code : ℕ) → judge cs ≡ Err code → PassOrFail cs

pass_or_fail : (cs : List Check) → PassOrFail cs
unfolding judge pick
pass_or_fail [] = passed tt
pass_or_fail (check true code ∷ cs) = failed code refl
pass_or_fail (check false code ∷ cs) = by (pass_or_fail cs)
  where
    by : PassOrFail cs → PassOrFail (check false code ∷ cs)
    by (passed p) = passed (refl, p)
    by (failed k e) = failed k e

-- refused or not, the merged action leaves the same table
pub merged_writes : (c : ℕ) (ps : List Property) (alone : Bool) (t : List ℕ) → Whole t → any_topology ps ≡ true
    → SameWrites (started (Numbered c) (merged ps) alone (seen c t) (links_of c t (triples_of (merged ps)))) (started (Numbered c) ps alone (seen c t) (links_of c t (triples_of ps)))
unfolding started started_by
merged_writes c ps alone t W e = by (pass_or_fail _) (pass_or_fail _)
  where
    done : Passed (start_checks (Numbered c) ps alone (seen c t) (links_of c t (triples_of ps)))
        → SameWrites (started (Numbered c) (merged ps) alone (seen c t) (links_of c t (triples_of (merged ps)))) (started (Numbered c) ps alone (seen c t) (links_of c t (triples_of ps)))
    done p = let m = merged_start c ps alone t W e p in record { writes = ap (λ (x : Start). x.writes) m; going = ap (λ (x : Start). x.going) m }

    by : PassOrFail (start_checks (Numbered c) ps alone (seen c t) (links_of c t (triples_of ps))) → PassOrFail (start_checks (Numbered c) (merged ps) alone (seen c t) (links_of c t (triples_of (merged ps))))
        → SameWrites (started (Numbered c) (merged ps) alone (seen c t) (links_of c t (triples_of (merged ps)))) (started (Numbered c) ps alone (seen c t) (links_of c t (triples_of ps)))
    by (passed p) o = done p
    by (failed k a) (passed p) = done (merged_refused c ps alone t e p)
    by (failed k a) (failed l b) = rw (a, b) (record { writes = refl; going = refl })

-- where topology is not taken at all, `-`, `$` and `*`, both are refused with 421
data Elsewhere : Context → Type 0 where
  in_null : Elsewhere Null
  in_choose : Elsewhere Choose
  in_all : Elsewhere All

merged_elsewhere : {c : Context} (ps : List Property) (alone : Bool) (there : Seen) (links more : List Link) → Elsewhere c → any_topology ps ≡ true
    → started c (merged ps) alone there links ≡ started c ps alone there more
unfolding started started_by start_checks judge pick
merged_elsewhere ps alone there links more in_null e = rw (merged_given ps, given_any ps e)
merged_elsewhere ps true there links more in_choose e = rw (merged_given ps, given_any ps e)
merged_elsewhere ps false there links more in_choose e = rw (merged_given ps, given_any ps e, merged_any ps, e)
merged_elsewhere ps alone there links more in_all e = refl

-- so in any context, refused or not, the same table is left
pub merged_table : (c : Context) (ps : List Property) (alone : Bool) (st : State) (acts : List Acted) → sound st.table ≡ true → any_topology ps ≡ true
    → (proceed (start c (merged ps) alone) st acts).state ≡ (proceed (start c ps alone) st acts).state
unfolding proceed begin number_of
merged_table Null ps alone st acts s e = ap (λ (x : Start). wrote x.writes st) (merged_elsewhere ps alone _ _ _ in_null e)
merged_table (Numbered c) ps alone st acts s e = ap (λ (ws : List Write). wrote ws st) (merged_writes c ps alone st.table (sound_whole st.table s) e).writes
merged_table Choose ps alone st acts s e = ap (λ (x : Start). wrote x.writes st) (merged_elsewhere ps alone _ _ _ in_choose e)
merged_table All ps alone st acts s e = ap (λ (x : Start). wrote x.writes st) (merged_elsewhere ps alone _ _ _ in_all e)

-- ---- a transaction

-- its first action merged, it gives the same state and reply; of a later one `merged-step` speaks
pub merged_action : (id c : ℕ) (ps : List Property) (cs : List Command) (acts : List Action) (st : State) → sound st.table ≡ true → any_topology ps ≡ true
    → Passed (start_checks (Numbered c) ps (no_commands cs) (seen c st.table) (links_of c st.table (triples_of ps)))
    → run_transaction (transaction id (action (Numbered c) (merged ps) cs ∷ acts)) st ≡ run_transaction (transaction id (action (Numbered c) ps cs ∷ acts)) st
unfolding run_transaction run steps step pick
merged_action id c ps cs acts st s e p =
    ap (λ (x : Course). let y = run (command_steps cs (steps acts)) x in ran y.state (transaction_text id y.progress.acts)) (merged_step c ps (no_commands cs) st [] (sound_whole st.table s) e p)

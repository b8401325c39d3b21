-- An action's start leaves a sound table sound, and gives `$` a record that a context may have.
use Prim.Native.Nat.{ℕ, ◌+◌, ◌*◌, ◌≤◌, ◌<◌}
use mathlib.Core.Path.{◌≡◌, refl, sym, subst}
use mathlib.Core.Bool.{Bool, true, false, ◌&&◌}
use mathlib.Core.List.{List, [], ◌∷◌}
use lib.Dec.{ltb, eqb}
use borrow.Author.Tests.{eqb-false, ltb-false}
use native.Mathlib.Omega.{arith}
use Rattle.protocol.specs.Types.{Context, Null, Numbered, Choose, All, Checked, Seen}
use Rattle.megaco.specs.Tree.{Property, priority, emergency, topology}
use Rattle.megaco.specs.Table.{contexts, rec, cell, members, Write, write, apply, priority_of, emergency_of}
use Rattle.megaco.specs.Topology.{triples_of, any_topology, Link, links_of, set_links}
use Rattle.megaco.proofs.Squares.{Shape, shape_of}
use Rattle.megaco.specs.Attempt.{seen, flows_of, number_of}
use Rattle.megaco.specs.Action.{over15, any_given, start_checks, new_record, set_properties, link_checks, flow_writes, start_writes, started_by, started}
use Rattle.base.proofs.TestLaws.{clash, or_neither, pick_of}
use Rattle.laws.specs.Passed.{Passed}
use Rattle.laws.specs.Sound.{Whole, Fit}
use Rattle.laws.proofs.Passed.{judged}
use Rattle.laws.proofs.Moved.{recorded_members, recorded_sound, flowed_sound}
use Rattle.laws.proofs.Attempts.{both_known, seen_held, seen_there, seen_flows}
use Rattle.laws.proofs.Presence.{Present}
use Rattle.laws.proofs.Linked.{links_fit}

none_over : (ps : List Property) → any_given ps ≡ false → over15 ps ≡ false
unfolding any_given over15
none_over [] e = refl
none_over (p ∷ ps) e = absurd (clash e)

-- "449 for any priority over 15" stands in every context, `-` having no properties and `*` nothing at all
start_passed : (c : Context) (ps : List Property) (alone : Bool) (there : Seen) (links : List Link) → Passed (start_checks c ps alone there links) → over15 ps ≡ false
unfolding start_checks
start_passed Null ps alone there links p = none_over ps p.0
start_passed (Numbered c) ps alone there links p = p.0
start_passed Choose ps alone there links p = p.1.0
start_passed All ps alone there links p = absurd (clash p.0)

-- "411 for properties in a numbered context that does not exist"
pub start_there : (c : ℕ) (ps : List Property) (alone : Bool) (there : Seen) (links : List Link) → Passed (start_checks (Numbered c) ps alone there links) → any_given ps ≡ true → 0 < there.held
unfolding start_checks
start_there c ps alone there links p e = let z : any_given ps && eqb there.held 0 ≡ false = p.1.0 in omega (arith, eqb-false there.held 0 (rw e at z))

properties_present : (ps : List Property) (r : ℕ) → over15 ps ≡ false → Present r → Present (set_properties ps r)
unfolding over15 set_properties
properties_present [] r e p = p
properties_present (priority n ∷ ps) r e p =
    let b = or_neither (ltb 15 n) (over15 ps) e in
    let l = ltb-false 15 n b.0 in
    properties_present ps (1 + n + 16 * emergency_of r) b.1 (omega arith)
properties_present (emergency ∷ ps) r e p = properties_present ps (1 + priority_of r + 16) e (omega arith)
properties_present (topology ts ∷ ps) r e p = properties_present ps r e p

pub start_given : (c : Context) (ps : List Property) (alone : Bool) (there : Seen) (links : List Link) → Present (started c ps alone there links).acted.given
unfolding started started_by
start_given c ps alone there links =
    judged (λ (x : Checked). Present (started_by c ps alone there links x).acted.given) (start_checks c ps alone there links) (λ code. omega arith)
    (λ p. properties_present ps new_record (start_passed c ps alone there links p) (omega arith))

-- the triples of an action, looked up
abbrev links_in : Context → List Property → List ℕ → List Link
links_in c ps t = links_of (number_of c) t (triples_of ps)

-- flows are set in a context that exists, its record set before
flows_set : (c r : ℕ) (ps : List Property) (t : List ℕ) → Whole t → 0 < c → c ≤ contexts → Passed (link_checks (links_of c t (triples_of ps)))
    → Whole (apply (write (cell (rec c)) r ∷ []) t) → Whole (apply (flow_writes c ps (seen c t) (links_of c t (triples_of ps))) (apply (write (cell (rec c)) r ∷ []) t))
unfolding flow_writes
flows_set c r ps t W p q h U =
    pick_of (λ (ws : List Write). Whole (apply ws (apply (write (cell (rec c)) r ∷ []) t))) (any_topology ps)
    (λ _. flowed_sound _ c _ U p q fits.0 (subst (λ (m : ℕ). Fit m (set_links (links_of c t (triples_of ps)) (flows_of (seen c t)))) (sym (recorded_members t c r c W p q)) fits.1))
    (λ _. unfold apply in U)
  where
    fits : Shape (set_links (links_of c t (triples_of ps)) (flows_of (seen c t))) × Fit (members c t) (set_links (links_of c t (triples_of ps)) (flows_of (seen c t)))
    fits =
        let s = W.held c p q in
        links_fit c t W.long (both_known c p q) (triples_of ps) (flows_of (seen c t)) s.room h (unfold flows_of in shape_of _ _) (seen_flows c t W p q)

-- properties are set in a context that exists
properties_sound : (c : Context) (ps : List Property) (alone : Bool) (t : List ℕ) → Whole t → Passed (start_checks c ps alone (seen (number_of c) t) (links_in c ps t))
    → Whole (apply (start_writes c ps (seen (number_of c) t) (links_in c ps t)) t)
unfolding start_checks start_writes number_of apply
properties_sound Null ps alone t W p = W
properties_sound (Numbered c) ps alone t W p =
    pick_of (λ (ws : List Write). Whole (apply ws t)) (any_given ps) (λ e. set_there (start_there c ps alone (seen c t) (links_of c t (triples_of ps)) p e)) (λ _. W)
  where
    r : ℕ
    r = (seen c t).held

    set_there : 0 < r → Whole (apply (write (cell (rec c)) (set_properties ps r) ∷ flow_writes c ps (seen c t) (links_of c t (triples_of ps))) t)
    set_there h =
        let k = seen_there c t h in
        let s = W.held c k.0 k.1 in
        let n = properties_present ps r (start_passed (Numbered c) ps alone (seen c t) (links_of c t (triples_of ps)) p) (record { some = h; low = rw (seen_held c t k.0 k.1) s.low }) in
        flows_set c (set_properties ps r) ps t W k.0 k.1 p.1.1 (recorded_sound t c (set_properties ps r) W k.0 k.1 k.2 n.some n.low)
properties_sound Choose ps alone t W p = W
properties_sound All ps alone t W p = W

pub start_sound : (c : Context) (ps : List Property) (alone : Bool) (t : List ℕ) → Whole t
    → Whole (apply (started c ps alone (seen (number_of c) t) (links_of (number_of c) t (triples_of ps))).writes t)
unfolding started started_by apply
start_sound c ps alone t W =
    let there : Seen = seen (number_of c) t in
    let links : List Link = links_of (number_of c) t (triples_of ps) in
    judged (λ (x : Checked). Whole (apply (started_by c ps alone there links x).writes t)) (start_checks c ps alone there links) (λ code. W)
    (λ p. properties_sound c ps alone t W p)

-- What the table tells after an action's start with topology: the two words of the context hold what the triples set, and of one triple, by its
-- names, the second hears the first or not, the first the second or not, and all others as before.
use Prim.Native.Nat.{ℕ, ◌≤◌, ◌<◌}
use mathlib.Core.Path.{◌≡◌, refl, ◌∙◌}
use mathlib.Core.Bool.{Bool, true}
use mathlib.Core.List.{List, [], ◌∷◌}
use borrow.Author.Tests.{eq-eqb}
use native.Mathlib.Omega.{arith}
use Rattle.base.specs.Pick.{pick}
use Rattle.megaco.specs.Tree.{triple, Property}
use Rattle.megaco.specs.Table.{contexts, fitted, flow, low_flow, high_flow, cell, rec, get, members, Write, write, apply}
use Rattle.megaco.specs.Square.{Square, square_of, low_of, high_of, flow_at, directed}
use Rattle.megaco.specs.Topology.{triples_of, any_topology, party, link_of, links_of, place_of, set_link, set_links}
use Rattle.megaco.specs.Attempt.{seen, flows_of, flowing}
use Rattle.megaco.specs.Action.{start_checks, set_properties, flow_writes, start_writes, started_by, started}
use Rattle.protocol.specs.Types.{Numbered, Direction}
use Rattle.megaco.proofs.Squares.{Shape, square_back, shape_of}
use Rattle.laws.specs.Passed.{Passed}
use Rattle.laws.specs.Sound.{Whole}
use Rattle.laws.specs.Hears.{forth, back, OtherPair, saying, heard}
use Rattle.laws.proofs.Passed.{passes}
use Rattle.laws.proofs.Properties.{given_any}
use Rattle.laws.proofs.Slots.{Within, get_apply}
use Rattle.laws.proofs.Moved.{high_low}
use Rattle.laws.proofs.Attempts.{both_known, seen_there, seen_flows}
use Rattle.laws.proofs.Linked.{passed_fine, Linked, linked, links_fit}
use Rattle.laws.proofs.Starts.{start_there}
use Rattle.laws.proofs.Hears.{second_hears, first_hears, others_hear}

-- what a context is seen to hold after its flows, and its record, are written
written_flows : (t : List ℕ) (c r : ℕ) (q : Square) → Whole t → 0 < c → c ≤ contexts → Shape q → flows_of (seen c (apply (write (cell (rec c)) r ∷ flowing c q []) t)) ≡ q
unfolding seen flows_of flowing pick
written_flows t c r q W p l s =
    let ws : List Write = write (cell (rec c)) r ∷ write (cell (flow (low_flow c))) (low_of q) ∷ write (cell (flow (high_flow c))) (high_of q) ∷ [] in
    let w : Within (fitted t) ws = ((p, l), (omega arith, (omega arith, tt))) in
    let a : get (apply ws t) (cell (flow (low_flow c))) ≡ low_of q =
    get_apply (fitted t) ws (cell (flow (low_flow c))) t w (omega arith) W.long ∙ rw (high_low c c, eq-eqb (low_flow c) (low_flow c) refl) in
    let b : get (apply ws t) (cell (flow (high_flow c))) ≡ high_of q =
    get_apply (fitted t) ws (cell (flow (high_flow c))) t w (omega arith) W.long ∙ rw (eq-eqb (high_flow c) (high_flow c) refl) in
    rw (both_known c p l) ((λ j. square_of (a j) (b j)) ∙ square_back q s)

module _ (c : ℕ) (ps : List Property) (alone : Bool) (t : List ℕ) (W : Whole t) (e : any_topology ps ≡ true)
    (p : Passed (start_checks (Numbered c) ps alone (seen c t) (links_of c t (triples_of ps)))) where
  -- the context exists
  exists_there : (0 < c) × (c ≤ contexts) × (0 < get t (cell (rec c)))
  exists_there = seen_there c t (start_there c ps alone (seen c t) (links_of c t (triples_of ps)) p (given_any ps e))

  writes_are : (started (Numbered c) ps alone (seen c t) (links_of c t (triples_of ps))).writes
      ≡ write (cell (rec c)) (set_properties ps (seen c t).held) ∷ flowing c (set_links (links_of c t (triples_of ps)) (flows_of (seen c t))) []
  unfolding started started_by start_writes flow_writes pick
  writes_are = rw (passes _ p, given_any ps e, e)

  -- "The triples of every TP in the action are set in order"
  pub start_sets : flows_of (seen c (apply (started (Numbered c) ps alone (seen c t) (links_of c t (triples_of ps))).writes t)) ≡ set_links (links_of c t (triples_of ps)) (flows_of (seen c t))
  unfolding start_checks
  start_sets =
      let k = exists_there in
      let s = W.held c k.0 k.1 in
      let f = links_fit c t W.long (both_known c k.0 k.1) (triples_of ps) (flows_of (seen c t)) s.room p.1.1 (unfold flows_of in shape_of _ _) (seen_flows c t W k.0 k.1) in
      rw writes_are (written_flows t c _ _ W k.0 k.1 f.0)

module _ (c : ℕ) (x y : List ℕ) (d : Direction) (alone : Bool) (t : List ℕ) (W : Whole t)
    (p : Passed (start_checks (Numbered c) (saying x y d) alone (seen c t) (links_of c t (triples_of (saying x y d))))) where
  abbrev i : ℕ
  i = place_of (party c t x)

  abbrev j : ℕ
  j = place_of (party c t y)

  any : any_topology (saying x y d) ≡ true
  unfolding any_topology
  any = refl

  heard_is : heard c (saying x y d) alone t ≡ directed d i j (flows_of (seen c t))
  unfolding triples_of links_of link_of set_links set_link
  heard_is = start_sets c (saying x y d) alone t W any p

  -- the two places
  places : Linked c t W.long (both_known c (exists_there c (saying x y d) alone t W any p).0 (exists_there c (saying x y d) alone t W any p).1) (party c t x) (party c t y)
  unfolding start_checks triples_of
  places = let f = (passed_fine c t (triple x y d ∷ []) p.1.1).0 in linked c t W.long _ x y f.1 f.0.0 f.0.1

  few : members c t ≤ 8
  few = let k = exists_there c (saying x y d) alone t W any p in (W.held c k.0 k.1).room

  shaped : Shape (flows_of (seen c t))
  unfolding flows_of
  shaped = shape_of _ _

  low_i : i < 8
  low_i = let h = places.one in omega (arith, h, few)

  low_j : j < 8
  low_j = let h = places.two in omega (arith, h, few)

  -- "Oneway of A, B: A flows to B and B doesn't to A"; so B hears A, and A does not hear B
  pub second_hears_first : flow_at (heard c (saying x y d) alone t) i j ≡ forth d
  second_hears_first = rw heard_is (second_hears d (flows_of (seen c t)) i j shaped low_i low_j places.apart)

  pub first_hears_second : flow_at (heard c (saying x y d) alone t) j i ≡ back d
  first_hears_second = rw heard_is (first_hears d (flows_of (seen c t)) i j shaped low_i low_j places.apart)

  -- "Pairs not named stay"
  pub others_as_before : (a b : ℕ) → a < 8 → b < 8 → OtherPair i j a b → flow_at (heard c (saying x y d) alone t) a b ≡ flow_at (flows_of (seen c t)) a b
  others_as_before a b l m o = rw heard_is (others_hear d (flows_of (seen c t)) i j shaped low_i low_j places.apart a b l m o)

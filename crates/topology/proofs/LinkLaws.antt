-- One triple: looked up, judged, set; and triples in a row.
use Rattle.std.specs.Prelude.{Ok, Err}
use Prim.Native.Nat.{ℕ, ◌-◌}
use mathlib.Core.Path.{◌≡◌, refl, sym, ap, ◌∙◌}
use mathlib.Core.List.{List, [], ◌∷◌, ◌++◌, append-nil}
use mathlib.Core.Bool.{Bool, true, false, ◌||◌}
use native.Mathlib.Omega.{arith}
use lib.ListN.{take, drop}
use Rattle.base.specs.Pick.{pick}
use Rattle.base.specs.Lists.{same, part}
use Rattle.base.proofs.TestLaws.{clash}
use Rattle.megaco.specs.Bytes.{capitals}
use Rattle.megaco.specs.Tree as tree
use Rattle.megaco.specs.Tree.{Triple, priority, emergency, topology}
use Rattle.megaco.specs.Square.{Square}
use Rattle.megaco.specs.Topology.{triples_of, party, Link, link, link_of, links_of, is_unfit, is_absent, is_outside, set_link, set_links}
use Rattle.megaco.specs.Attempt.{judge}
use Rattle.megaco.specs.Action.{link_checks}
use Rattle.protocol.specs.Types.{Checked, Property, Priority, Emergency, Topology}
use Rattle.read_command.specs.Places.{triples_start, triples_at, property_at}
use Rattle.action_places.specs.ActionPlaces.{OfTriple, triple_from, kind_of}
use Rattle.action_places.specs.declared.TriplePlaces.{TriplePlaces}
use Rattle.action_places.proofs.ActionPlaceLaws.{triple_is, kind_topology}
use Rattle.topology.specs.declared.Looked.{Looked}
use Rattle.topology.specs.Links.{link_from, Links, is_topology}

-- ---- one triple
pub looked_up : (s t : List ℕ) (at c : ℕ) (p : TriplePlaces) (r : Looked) → OfTriple s at p
    → r.twice ≡ same (capitals (take (p.one.to - p.one.from) (drop p.one.from s))) (capitals (take (p.two.to - p.two.from) (drop p.two.from s)))
    → r.one ≡ party c t (take (p.one.to - p.one.from) (drop p.one.from s)) → r.two ≡ party c t (take (p.two.to - p.two.from) (drop p.two.from s))
    → r.direction ≡ p.direction → r.end ≡ p.end → Links s at t c r
unfolding link_from link_of triple_from part
looked_up s t at c p r o e f g d n = record { is = rw (e, f, g, d, triple_is s at p o); after = n ∙ o.end }

-- ---- triples in a row
unfoldable pub judged_by : ℕ → List ℕ → List Triple → Checked
judged_by c t ts = judge (link_checks (links_of c t ts))

unfoldable pub set_by : ℕ → List ℕ → List Triple → Square → Square
set_by c t ts q = set_links (links_of c t ts) q

links_both : (c : ℕ) (t : List ℕ) (a b : List Triple) → links_of c t (a ++ b) ≡ links_of c t a ++ links_of c t b
unfolding links_of
links_both c t [] b = refl
links_both c t (x ∷ a) b = rw (links_both c t a b)

set_links_both : (a b : List Link) (q : Square) → set_links (a ++ b) q ≡ set_links b (set_links a q)
unfolding set_links
set_links_both [] b q = refl
set_links_both (x ∷ a) b q = set_links_both a b (set_link x q)

pub set_both : (c : ℕ) (t : List ℕ) (a b : List Triple) (q : Square) → set_by c t (a ++ b) q ≡ set_by c t b (set_by c t a q)
unfolding set_by
set_both c t a b q = rw (links_both c t a b) (set_links_both (links_of c t a) (links_of c t b) q)

-- the three tests of a triple before others
on_passes : (x y z : Bool) (r w : Checked) → pick x (Err 410) (pick y (Err 430) (pick z (Err 435) r)) ≡ Ok tt
    → (r ≡ Ok tt) × (pick x (Err 410) (pick y (Err 430) (pick z (Err 435) w)) ≡ w)
unfolding pick
on_passes true y z r w e = absurd (let n : ◌≡◌ {A = ℕ} 0 1 = cc in omega arith)
on_passes false true z r w e = absurd (let n : ◌≡◌ {A = ℕ} 0 1 = cc in omega arith)
on_passes false false true r w e = absurd (let n : ◌≡◌ {A = ℕ} 0 1 = cc in omega arith)
on_passes false false false r w e = (e, refl)

passes_both : (a b : List Link) → judge (link_checks a) ≡ Ok tt → judge (link_checks (a ++ b)) ≡ judge (link_checks b)
unfolding judge link_checks
passes_both [] b e = refl
passes_both (link tw x y d ∷ a) b e =
    let k = on_passes (tw || is_unfit x || is_unfit y) (is_absent x || is_absent y) (is_outside x || is_outside y) (judge (link_checks a)) (judge (link_checks (a ++ b))) e in
    k.1 ∙ passes_both a b k.0

on_fails : (x y z : Bool) (r w : Checked) (code : ℕ) → (r ≡ Err code → w ≡ Err code)
    → pick x (Err 410) (pick y (Err 430) (pick z (Err 435) r)) ≡ Err code → pick x (Err 410) (pick y (Err 430) (pick z (Err 435) w)) ≡ Err code
unfolding pick
on_fails true y z r w code f e = e
on_fails false true z r w code f e = e
on_fails false false true r w code f e = e
on_fails false false false r w code f e = f e

fails_both : (a b : List Link) (code : ℕ) → judge (link_checks a) ≡ Err code → judge (link_checks (a ++ b)) ≡ Err code
unfolding judge link_checks
fails_both [] b code e = absurd (let n : ◌≡◌ {A = ℕ} 0 1 = cc in omega arith)
fails_both (link tw x y d ∷ a) b code e =
    on_fails (tw || is_unfit x || is_unfit y) (is_absent x || is_absent y) (is_outside x || is_outside y) (judge (link_checks a)) (judge (link_checks (a ++ b))) code (fails_both a b code) e

pub judged_pass : (c : ℕ) (t : List ℕ) (a b : List Triple) → judged_by c t a ≡ Ok tt → judged_by c t (a ++ b) ≡ judged_by c t b
unfolding judged_by
judged_pass c t a b e = rw (links_both c t a b) (passes_both (links_of c t a) (links_of c t b) e)

pub judged_fail : (c : ℕ) (t : List ℕ) (a b : List Triple) (code : ℕ) → judged_by c t a ≡ Err code → judged_by c t (a ++ b) ≡ Err code
unfolding judged_by
judged_fail c t a b code e = rw (links_both c t a b) (fails_both (links_of c t a) (links_of c t b) code e)

pub judged_none : (c : ℕ) (t : List ℕ) → judged_by c t [] ≡ Ok tt
unfolding judged_by judge link_checks links_of
judged_none c t = refl

pub set_none : (c : ℕ) (t : List ℕ) (q : Square) → set_by c t [] q ≡ q
unfolding set_by set_links links_of
set_none c t q = refl

-- ---- one property
no_triples : (x : tree.Property) → is_topology (kind_of x) ≡ false → triples_of (x ∷ []) ≡ []
unfolding is_topology kind_of triples_of
no_triples (priority n) h = refl
no_triples emergency h = refl
no_triples (topology ts) h = absurd (clash h)

topology_alone : (x : Property) → is_topology x ≡ true → x ≡ Topology
unfolding is_topology
topology_alone (Priority n) h = absurd (clash (sym h))
topology_alone Emergency h = absurd (clash (sym h))
topology_alone Topology h = refl

module _ (s t : List ℕ) (at c : ℕ) (x : Property) (e : x ≡ kind_of (property_at s at).tree) (b : Bool) (y : b ≡ is_topology x) where
  none : b ≡ false → triples_of ((property_at s at).tree ∷ []) ≡ []
  none h = no_triples _ (ap is_topology (sym e) ∙ sym y ∙ h)

  its_triples : (u : ℕ) → b ≡ true → u ≡ triples_start s at → triples_of ((property_at s at).tree ∷ []) ≡ (triples_at s u).tree
  unfolding triples_of
  its_triples u h p = rw (kind_topology s at (sym e ∙ topology_alone x (sym y ∙ h)), p) (append-nil (triples_at s (triples_start s at)).tree)

  pub judged_other : b ≡ false → Ok tt ≡ judge (link_checks (links_of c t (triples_of ((property_at s at).tree ∷ []))))
  unfolding judge link_checks links_of
  judged_other h = rw (none h)

  pub judged_topology : (u : ℕ) (r : Checked) → b ≡ true → u ≡ triples_start s at → r ≡ judge (link_checks (links_of c t (triples_at s u).tree))
      → r ≡ judge (link_checks (links_of c t (triples_of ((property_at s at).tree ∷ []))))
  judged_topology u r h p k = k ∙ ap (λ (ts : List Triple). judge (link_checks (links_of c t ts))) (sym (its_triples u h p))

  module _ (q : Square) where
    pub set_other : b ≡ false → q ≡ set_links (links_of c t (triples_of ((property_at s at).tree ∷ []))) q
    unfolding set_links links_of
    set_other h = rw (none h)

    pub set_topology : (u : ℕ) (r : Square) → b ≡ true → u ≡ triples_start s at → r ≡ set_links (links_of c t (triples_at s u).tree) q
        → r ≡ set_links (links_of c t (triples_of ((property_at s at).tree ∷ []))) q
    set_topology u r h p k = k ∙ ap (λ (ts : List Triple). set_links (links_of c t ts) q) (sym (its_triples u h p))

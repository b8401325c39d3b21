-- An action's topology (document 02, CR 6): whom the names of its triples mean, and what the triples set.
use Rattle.std.specs.Prelude.{ℕ, Bool, true, false, List, [], ◌∷◌, ◌++◌, eqb}
use Rattle.base.specs.Pick.{pick}
use Rattle.base.specs.Lists.{same}
use Rattle.megaco.specs.Bytes.{capitals}
use Rattle.megaco.specs.Tree.{Triple, triple, Property, priority, emergency, topology}
use Rattle.megaco.specs.Table.{ctx, get, fitted, exists, place_in}
use Rattle.megaco.specs.Names.{name_of}
use Rattle.megaco.specs.Square.{Square, directed}
use Rattle.megaco.specs.declared.Name.{Name}
use Rattle.megaco.specs.declared.Name.TheVariants.{Termination, Root, Chosen, Unchosen, Wildcard, Unmatched, Unknown}
use Rattle.megaco.specs.declared.Direction.{Direction}
use Rattle.megaco.specs.declared.Party.{Party}
use Rattle.megaco.specs.declared.Party.TheVariants.{Unfit, Absent, Outside, Member}

-- ---- the triples of an action, "of every TP in the action"
unfoldable pub triples_of : List Property → List Triple
triples_of [] = []
triples_of (priority n ∷ ps) = triples_of ps
triples_of (emergency ∷ ps) = triples_of ps
triples_of (topology ts ∷ ps) = ts ++ triples_of ps

unfoldable pub any_topology : List Property → Bool
any_topology [] = false
any_topology (priority n ∷ ps) = any_topology ps
any_topology (emergency ∷ ps) = any_topology ps
any_topology (topology ts ∷ ps) = true

-- ---- whom a name means in context c: "410 for .. one with `*` or `$`, or ROOT; 430; 435 for one not in the context"
unfoldable pub meant : ℕ → List ℕ → Name → Party
meant c t (Termination i) =
    let there = pick (eqb (get t (ctx i)) c) (Member (place_in c i t)) Outside in pick (exists (fitted t) i (get t (ctx i))) there Absent
meant c t Root = Unfit
meant c t Chosen = Unfit
meant c t Unchosen = Unfit
meant c t (Wildcard r) = Unfit
meant c t Unmatched = Unfit
meant c t Unknown = Absent

unfoldable pub party : ℕ → List ℕ → List ℕ → Party
party c t name = meant c t (name_of (fitted t) name)

-- a triple with its names looked up; "a name twice in a triple", letter case aside
pub data Link : Type 0 where
  link : (twice : Bool) (one two : Party) (direction : Direction) → Link

unfoldable pub link_of : ℕ → List ℕ → Triple → Link
link_of c t (triple a b d) = link (same (capitals a) (capitals b)) (party c t a) (party c t b) d

unfoldable pub links_of : ℕ → List ℕ → List Triple → List Link
links_of c t [] = []
links_of c t (x ∷ xs) = link_of c t x ∷ links_of c t xs

unfoldable pub is_unfit : Party → Bool
is_unfit = elim [ Unfit ↦ true | Absent ↦ false | Outside ↦ false | Member k ↦ false ]

unfoldable pub is_absent : Party → Bool
is_absent = elim [ Unfit ↦ false | Absent ↦ true | Outside ↦ false | Member k ↦ false ]

unfoldable pub is_outside : Party → Bool
is_outside = elim [ Unfit ↦ false | Absent ↦ false | Outside ↦ true | Member k ↦ false ]

-- ---- what triples set: "The triples of every TP in the action are set in order"
unfoldable pub place_of : Party → ℕ
place_of = elim [ Unfit ↦ 0 | Absent ↦ 0 | Outside ↦ 0 | Member k ↦ k ]

unfoldable pub set_link : Link → Square → Square
set_link (link twice a b d) q = directed d (place_of a) (place_of b) q

unfoldable pub set_links : List Link → Square → Square
set_links [] q = q
set_links (x ∷ xs) q = set_links xs (set_link x q)

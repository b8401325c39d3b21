-- What a member of a context hears is what the triples said (document 02, CR 6): each triple fixes both directions of its pair, and every other
-- pair is as before. Proved in proofs/Theorems.antt: `hearing`.
use Rattle.std.specs.Prelude.{ℕ, ◌<◌, ◌≡◌, Bool, true, false, List, [], ◌∷◌}
use Rattle.megaco.specs.Square.{Square, flow_at}
use Rattle.megaco.specs.Tree.{triple, Property, topology}
use Rattle.megaco.specs.Table.{apply}
use Rattle.megaco.specs.Topology.{triples_of, any_topology, party, links_of, place_of, set_links}
use Rattle.megaco.specs.Attempt.{seen, flows_of}
use Rattle.megaco.specs.Action.{start_checks, started}
use Rattle.protocol.specs.Types.{Direction, Isolate, Oneway, Bothway, Numbered}
use Rattle.laws.specs.Passed.{Passed}
use Rattle.laws.specs.Sound.{Whole}

-- what a direction of A, B says: whether A flows to B, and B to A
unfoldable pub forth : Direction → Bool
forth Isolate = false
forth Oneway = true
forth Bothway = true

unfoldable pub back : Direction → Bool
back Isolate = false
back Oneway = false
back Bothway = true

-- another pair: not these two, in either order
pub record OtherPair (i j a b : ℕ) : Type 0 where
  pub forth : (a ≡ i) × (b ≡ j) → ⊥
  pub back : (a ≡ j) × (b ≡ i) → ⊥

-- one triple, by its names
abbrev pub saying : List ℕ → List ℕ → Direction → List Property
saying x y d = topology (triple x y d ∷ []) ∷ []

-- the flows of a context after an action's start
abbrev pub heard : ℕ → List Property → Bool → List ℕ → Square
heard c ps alone t = flows_of (seen c (apply (started (Numbered c) ps alone (seen c t) (links_of c t (triples_of ps))).writes t))

-- the tests of an action's start in context c are passed; `alone`: it has no command
abbrev pub StartPasses : ℕ → List Property → Bool → List ℕ → Type 0
StartPasses c ps alone t = Passed (start_checks (Numbered c) ps alone (seen c t) (links_of c t (triples_of ps)))

-- the place of a member, by its name
abbrev pub place_by : ℕ → List ℕ → List ℕ → ℕ
place_by c t name = place_of (party c t name)

-- ---- all of it

pub record Hearing : Type 0 where
  -- "The triples of every TP in the action are set in order"
  pub sets : (c : ℕ) (ps : List Property) (alone : Bool) (t : List ℕ) → Whole t → any_topology ps ≡ true → StartPasses c ps alone t
      → heard c ps alone t ≡ set_links (links_of c t (triples_of ps)) (flows_of (seen c t))
  -- one triple of x, y. "Oneway of A, B: A flows to B and B doesn't to A": so B hears A, and A does not hear B
  pub second_hears_first : (c : ℕ) (x y : List ℕ) (d : Direction) (alone : Bool) (t : List ℕ) → Whole t → StartPasses c (saying x y d) alone t
      → flow_at (heard c (saying x y d) alone t) (place_by c t x) (place_by c t y) ≡ forth d
  pub first_hears_second : (c : ℕ) (x y : List ℕ) (d : Direction) (alone : Bool) (t : List ℕ) → Whole t → StartPasses c (saying x y d) alone t
      → flow_at (heard c (saying x y d) alone t) (place_by c t y) (place_by c t x) ≡ back d
  -- "Pairs not named stay"
  pub others_as_before : (c : ℕ) (x y : List ℕ) (d : Direction) (alone : Bool) (t : List ℕ) → Whole t → StartPasses c (saying x y d) alone t
      → (a b : ℕ) → a < 8 → b < 8 → OtherPair (place_by c t x) (place_by c t y) a b → flow_at (heard c (saying x y d) alone t) a b ≡ flow_at (flows_of (seen c t)) a b

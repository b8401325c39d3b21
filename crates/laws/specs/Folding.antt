-- Rules for merging topology orders (document 02, CR 7), and several folded into one: of the triples on one pair of names, in either order and
-- letter case, the last stays. The rules are about triples that pass their tests. Proved in proofs/Theorems.antt: `merging`.
use Rattle.std.specs.Prelude.{ℕ, ◌≤◌, ◌<◌, ◌≡◌, ◌↔◌, Bool, true, false, ◌&&◌, ◌||◌, List, [], ◌∷◌, ◌++◌, length}
use Rattle.base.specs.Pick.{pick}
use Rattle.base.specs.Lists.{same}
use Rattle.megaco.specs.Bytes.{capitals}
use Rattle.megaco.specs.Tree.{Property, priority, emergency, topology, Triple, triple, Command, Action, action, transaction}
use Rattle.megaco.specs.Table.{contexts, members, sound}
use Rattle.megaco.specs.State.{State}
use Rattle.megaco.specs.Square.{Square, square_of}
use Rattle.megaco.specs.Reply.{Acted}
use Rattle.megaco.specs.Topology.{triples_of, any_topology, links_of, set_links}
use Rattle.megaco.specs.Action.{link_checks}
use Rattle.megaco.specs.Transaction.{start, no_commands, proceed, run_transaction}
use Rattle.protocol.specs.Types.{Context, Numbered, Isolate, Bothway}
use Rattle.laws.specs.Passed.{Passed}
use Rattle.laws.specs.Sound.{SoundFlows, Whole}
use Rattle.laws.specs.Hears.{StartPasses}

-- the properties that are no topology
unfoldable pub untied : List Property → List Property
untied [] = []
untied (priority n ∷ ps) = priority n ∷ untied ps
untied (emergency ∷ ps) = emergency ∷ untied ps
untied (topology ts ∷ ps) = untied ps

-- two names are the same, letter case aside
unfoldable pub alike : List ℕ → List ℕ → Bool
alike a b = same (capitals a) (capitals b)

-- two triples are on one pair, its names in either order
unfoldable pub on_one_pair : Triple → Triple → Bool
on_one_pair (triple a b d) (triple x y e) = (alike a x && alike b y) || (alike a y && alike b x)

unfoldable pub any_on : Triple → List Triple → Bool
any_on x [] = false
any_on x (y ∷ ys) = on_one_pair x y || any_on x ys

-- of the triples on each pair the last, in the order of these
unfoldable pub folded : List Triple → List Triple
folded [] = []
folded (x ∷ xs) = let r = folded xs in pick (any_on x xs) r (x ∷ r)

-- no triple of the list has another on its pair behind it
pub data Once : List Triple → Type 0 where
  over : Once []
  once : {x : Triple} {xs : List Triple} → any_on x xs ≡ false → Once xs → Once (x ∷ xs)

-- every TP of an action in one, folded
unfoldable pub merged : List Property → List Property
merged ps = topology (folded (triples_of ps)) ∷ untied ps

-- ---- the rules

-- triples that pass their tests, in context c of the table t
abbrev pub Pass : ℕ → List ℕ → List Triple → Type 0
Pass c t ts = Passed (link_checks (links_of c t ts))

-- what triples make of the flows that two words hold
abbrev pub set_by : ℕ → List ℕ → List Triple → ℕ → ℕ → Square
set_by c t ts low high = set_links (links_of c t ts) (square_of low high)

-- anywhere in a list of triples, whatever the flows before
pub record Rules (c : ℕ) (t : List ℕ) : Type 0 where
  -- "the same triple twice in a row equals once"
  pub twice : (before : List Triple) (x : Triple) (after : List Triple) (low high : ℕ) → Pass c t (x ∷ [])
      → set_by c t (before ++ x ∷ x ∷ after) low high ≡ set_by c t (before ++ x ∷ after) low high
  -- "Isolate and Bothway don't care for the order of names"
  pub isolate : (before : List Triple) (a b : List ℕ) (after : List Triple) (low high : ℕ) → Pass c t (triple a b Isolate ∷ [])
      → set_by c t (before ++ triple a b Isolate ∷ after) low high ≡ set_by c t (before ++ triple b a Isolate ∷ after) low high
  pub bothway : (before : List Triple) (a b : List ℕ) (after : List Triple) (low high : ℕ) → Pass c t (triple a b Bothway ∷ [])
      → set_by c t (before ++ triple a b Bothway ∷ after) low high ≡ set_by c t (before ++ triple b a Bothway ∷ after) low high
  -- "on one pair, its names in either order, only the last triple counts"
  pub last : (before : List Triple) (x y : Triple) (after : List Triple) (low high : ℕ) → Pass c t (x ∷ y ∷ []) → on_one_pair x y ≡ true
      → set_by c t (before ++ x ∷ y ∷ after) low high ≡ set_by c t (before ++ y ∷ after) low high
  -- "triples on different pairs may change places"
  pub places : (before : List Triple) (x y : Triple) (after : List Triple) (low high : ℕ) → Pass c t (x ∷ y ∷ []) → on_one_pair x y ≡ false
      → set_by c t (before ++ x ∷ y ∷ after) low high ≡ set_by c t (before ++ y ∷ x ∷ after) low high
  -- so the fold sets what the list sets
  pub fold : (ts : List Triple) (low high : ℕ) → Pass c t ts → set_by c t (folded ts) low high ≡ set_by c t ts low high
  -- and no list that sets the same, whatever the flows before, has fewer triples
  pub shortest : (ts us : List Triple) → Pass c t ts → Pass c t us
      → ((low high : ℕ) → SoundFlows low high (members c t) → set_by c t us low high ≡ set_by c t ts low high) → length (folded ts) ≤ length us

-- ---- all of it

pub record Merging : Type 0 where
  -- in a context of a table that is sound (`Soundness.tested`)
  pub rules : (c : ℕ) (t : List ℕ) → Whole t → 0 < c → c ≤ contexts → Rules c t
  -- the fold has one triple for each pair, and a refused triple exactly where the list has one
  pub once_each : (ts : List Triple) → Once (folded ts)
  pub refused_alike : (c : ℕ) (t : List ℕ) (ts : List Triple) → Pass c t (folded ts) ↔ Pass c t ts
  -- "A partner folds several topology changes into one": an action's start, whatever ran before it in the transaction
  pub start_alike : (c : ℕ) (ps : List Property) (alone : Bool) (st : State) (acts : List Acted) → sound st.table ≡ true → any_topology ps ≡ true
      → StartPasses c ps alone st.table → proceed (start (Numbered c) (merged ps) alone) st acts ≡ proceed (start (Numbered c) ps alone) st acts
  -- a transaction whose first action is merged gives the same state and reply
  pub transaction_alike : (id c : ℕ) (ps : List Property) (cs : List Command) (acts : List Action) (st : State) → sound st.table ≡ true → any_topology ps ≡ true
      → StartPasses c ps (no_commands cs) st.table
      → run_transaction (transaction id (action (Numbered c) (merged ps) cs ∷ acts)) st ≡ run_transaction (transaction id (action (Numbered c) ps cs ∷ acts)) st
  -- a refused action is refused merged, if with another code; in any context, refused or not, the same table is left
  pub start_refused : (c : ℕ) (ps : List Property) (alone : Bool) (t : List ℕ) → Whole t → any_topology ps ≡ true → StartPasses c (merged ps) alone t ↔ StartPasses c ps alone t
  pub table_alike : (c : Context) (ps : List Property) (alone : Bool) (st : State) (acts : List Acted) → sound st.table ≡ true → any_topology ps ≡ true
      → (proceed (start c (merged ps) alone) st acts).state ≡ (proceed (start c ps alone) st acts).state

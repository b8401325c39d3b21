-- The conditions of demand 3, sentence by sentence: what a transaction names, what it reaches, and when two transactions are apart.
use Rattle.std.specs.Prelude.{ℕ, ◌<◌, ◌≡◌, List, [], ◌∷◌}
use Rattle.megaco.specs.Bytes.{star, dollar}
use Rattle.megaco.specs.Topology.{triples_of}
use Rattle.megaco.specs.Tree.{Command, command, Triple, triple, Action, action, Transaction, transaction}
use Rattle.megaco.specs.Table.{fitted, ctx, get}
use Rattle.megaco.specs.Names.{name_of}
use Rattle.protocol.specs.Types.{Context, Null, Numbered, Termination}
use Rattle.laws.specs.Membership.{◌∈◌}

-- ---- what is written in a transaction

-- the contexts, one for each action
unfoldable pub contexts_in : List Action → List Context
contexts_in [] = []
contexts_in (action c ps cs ∷ acts) = c ∷ contexts_in acts

-- the names of terminations, one for each command, whether it will run or not
unfoldable pub names_then : List Command → List (List ℕ) → List (List ℕ)
names_then [] rest = rest
names_then (command o w word name items ∷ cs) rest = name ∷ names_then cs rest

-- "there a name in a triple counts as written as a termination" (document 02, CR 6)
unfoldable pub triples_then : List Triple → List (List ℕ) → List (List ℕ)
triples_then [] rest = rest
triples_then (triple a b d ∷ ts) rest = a ∷ b ∷ triples_then ts rest

unfoldable pub names_in : List Action → List (List ℕ)
names_in [] = []
names_in (action c ps cs ∷ acts) = triples_then (triples_of ps) (names_then cs (names_in acts))

abbrev pub contexts_of : Transaction → List Context
contexts_of (transaction id acts) = contexts_in acts

abbrev pub names_of : Transaction → List (List ℕ)
names_of (transaction id acts) = names_in acts

-- ---- one transaction

-- "by number or as the null one"
pub data ByNumberOrNull : Context → Type 0 where
  by_number : {c : ℕ} → ByNumberOrNull (Numbered c)
  null_one : ByNumberOrNull Null

-- "name every context by number or as the null one"
abbrev pub ContextsPlain : Transaction → Type 0
ContextsPlain x = (c : Context) → c ∈ contexts_of x → ByNumberOrNull c

-- "and every termination without `*` or `$`"
abbrev pub NamesPlain : Transaction → Type 0
NamesPlain x = (n : List ℕ) → n ∈ names_of x → (star ∈ n → ⊥) × (dollar ∈ n → ⊥)

-- "It names each line and ephemeral, existing or not, that is written in it as a termination, in either letter case .. ; `ROOT` and unknown
-- names name none": `name_of` ignores letter case and is told how many lines are fitted
pub record Names (lines : ℕ) (x : Transaction) (i : ℕ) : Type 0 where
  pub name : List ℕ
  pub written : name ∈ names_of x
  pub means : name_of lines name ≡ Termination i

-- "the numbered contexts each names, with the numbered ones its terminations stand in at the start": t is the table at the start of both
pub data Reaches (t : List ℕ) (x : Transaction) (c : ℕ) : Type 0 where
  writes : Numbered c ∈ contexts_of x → Reaches t x c
  stands : (i : ℕ) → Names (fitted t) x i → get t (ctx i) ≡ c → Reaches t x c

-- ---- two transactions

-- "no termination is named by both"
abbrev pub TerminationsApart : ℕ → Transaction → Transaction → Type 0
TerminationsApart lines x y = (i : ℕ) → Names lines x i → Names lines y i → ⊥

-- "the numbered contexts .. are apart from the other's"; 0 is null in the table, and two transactions may both stand there
abbrev pub ContextsApart : List ℕ → Transaction → Transaction → Type 0
ContextsApart t x y = (c : ℕ) → 0 < c → Reaches t x c → Reaches t y c → ⊥

pub record Apart (t : List ℕ) (x y : Transaction) : Type 0 where
  pub contexts_one : ContextsPlain x
  pub contexts_two : ContextsPlain y
  pub names_one : NamesPlain x
  pub names_two : NamesPlain y
  pub terminations : TerminationsApart (fitted t) x y
  pub contexts : ContextsApart t x y

-- Each condition of demand 3 that sets the two transactions apart is needed: with one left out the claim is refuted. That the table is sound is
-- left out in none of them. Proved in proofs/Theorems.antt: `each_needed`.
use Rattle.std.specs.Prelude.{ℕ, ◌<◌, ◌≡◌, true, List, [], ◌∷◌}
use Rattle.megaco.specs.Bytes.{star, dollar}
use Rattle.megaco.specs.Tree.{Action, action, Transaction, transaction}
use Rattle.megaco.specs.Table.{fitted, sound}
use Rattle.megaco.specs.State.{State}
use Rattle.protocol.specs.Types.{Numbered}
use Rattle.laws.specs.Membership.{◌∈◌}
use Rattle.laws.specs.Apart.{contexts_of, names_of, ContextsPlain, NamesPlain, TerminationsApart, ContextsApart, Apart}
use Rattle.laws.specs.Demand.{EitherOrder}
use Rattle.laws.specs.Folding.{untied}

-- demand 3 with other conditions than its own
abbrev pub Claim : (List ℕ → Transaction → Transaction → Type 0) → Type 0
Claim P = (st : State) → sound st.table ≡ true → (x y : Transaction) → P st.table x y → EitherOrder st x y

abbrev pub PlainContexts : Transaction → Transaction → Type 0
PlainContexts x y = ContextsPlain x × ContextsPlain y

abbrev pub PlainNames : Transaction → Transaction → Type 0
PlainNames x y = NamesPlain x × NamesPlain y

-- names without one byte
abbrev pub NamesWithout : ℕ → Transaction → Transaction → Type 0
NamesWithout b x y = ((n : List ℕ) → n ∈ names_of x → b ∈ n → ⊥) × ((n : List ℕ) → n ∈ names_of y → b ∈ n → ⊥)

-- the contexts written, and no more, are apart
abbrev pub WrittenApart : Transaction → Transaction → Type 0
WrittenApart x y = (c : ℕ) → 0 < c → Numbered c ∈ contexts_of x → Numbered c ∈ contexts_of y → ⊥

-- a transaction without its topology
unfoldable pub bare : List Action → List Action
bare [] = []
bare (action c ps cs ∷ acts) = action c (untied ps) cs ∷ bare acts

unfoldable pub orders_alone : Transaction → Transaction
orders_alone (transaction id acts) = transaction id (bare acts)

-- ---- each one left out

pub record EachNeeded : Type 0 where
  -- contexts may be shared
  pub shared_context : Claim (λ t x y. PlainContexts x y × PlainNames x y × TerminationsApart (fitted t) x y) → ⊥
  -- the contexts written are apart, and where the terminations stand at the start is left out
  pub start_contexts : Claim (λ t x y. PlainContexts x y × PlainNames x y × TerminationsApart (fitted t) x y × WrittenApart x y) → ⊥
  -- terminations may be shared
  pub shared_termination : Claim (λ t x y. PlainContexts x y × PlainNames x y × ContextsApart t x y) → ⊥
  -- names may hold `$`
  pub chosen_termination : Claim (λ t x y. PlainContexts x y × NamesWithout star x y × TerminationsApart (fitted t) x y × ContextsApart t x y) → ⊥
  -- names may hold `*`
  pub wildcard : Claim (λ t x y. PlainContexts x y × NamesWithout dollar x y × TerminationsApart (fitted t) x y × ContextsApart t x y) → ⊥
  -- contexts may be `$`
  pub chosen_context : Claim (λ t x y. PlainNames x y × TerminationsApart (fitted t) x y × ContextsApart t x y) → ⊥
  -- names in triples are left out
  pub unnamed_triple : Claim (λ t x y. Apart t (orders_alone x) (orders_alone y)) → ⊥

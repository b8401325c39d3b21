-- The footprint of a transaction from a sound table: the terminations that it names, and the contexts that it reaches.
use Prim.Native.Nat.{ℕ, ◌≤◌, ◌<◌}
use mathlib.Core.Path.{◌≡◌, refl, subst}
use mathlib.Core.Bool.{true}
use mathlib.Core.List.Memᴰ
use mathlib.Core.List.{List, [], ◌∷◌}
use Rattle.megaco.specs.Bytes.{star, dollar}
use Rattle.megaco.specs.Topology.{triples_of}
use Rattle.megaco.specs.Tree.{Command, command, Triple, triple, Action, action, Transaction, transaction}
use Rattle.megaco.specs.Table.{terminations, contexts, fitted, sound}
use Rattle.megaco.specs.State.{State}
use Rattle.megaco.specs.Names.{name_of}
use Rattle.megaco.specs.Transaction.{Step, command_steps, steps}
use Rattle.protocol.specs.Types.{Context, Name}
use Rattle.laws.specs.Membership.{◌∈◌}
use Rattle.laws.specs.Apart.{contexts_in, names_then, triples_then, names_in, names_of, ByNumberOrNull, by_number, null_one, ContextsPlain, NamesPlain, Names, Reaches, writes, stands, Apart}
use Rattle.laws.specs.Mix.{Mixture, mixed, steps_of, both_fresh}
use Rattle.laws.proofs.Sound.{sound_whole}
use Rattle.laws.proofs.Frame.{Foot, Closed, Disjoint}
use Rattle.laws.proofs.Views.{known_above, known_below, Seat}
use Rattle.laws.proofs.Steps.{Means, EachMeans, Named}
use Rattle.laws.proofs.Mix.{run_one, run_two, EachStep, Ready, blocks_stay, exchange, one_after_other}
use Rattle.laws.proofs.Membership.{has_not}
use Rattle.laws.proofs.PlainNames.{Plain, a_termination, root, unknown, plain_below, plain_name_lem}

-- ---- the footprint of a transaction from a table

abbrev Reach : List ℕ → Transaction → ℕ → Type 0
Reach t x c = (0 < c) × (c ≤ contexts) × Reaches t x c

names_plain : (lines : ℕ) (x : Transaction) → NamesPlain x → (n : List ℕ) → n ∈ names_of x → Plain lines (name_of lines n)
names_plain lines x p n m = plain_name_lem lines n (has_not star n (p n m).0) (has_not dollar n (p n m).1)

names_below : (lines : ℕ) (x : Transaction) → NamesPlain x → (i : ℕ) → Names lines x i → i < terminations lines
names_below lines x p i m = plain_below lines (subst (Plain lines) m.means (names_plain lines x p m.name m.written))

foot : (t : List ℕ) (x : Transaction) → NamesPlain x → Foot (fitted t) (Names (fitted t) x) (Reach t x)
foot t x p = record { small = names_below (fitted t) x p; above = λ c r. r.0; below = λ c r. r.1 }

closed : (t : List ℕ) (x : Transaction) → sound t ≡ true → NamesPlain x → Closed (fitted t) (Names (fitted t) x) (Reach t x) t
closed t x e p = let w = sound_whole t e in record { long = w.long; home = λ i m h. (h, w.place i (names_below (fitted t) x p i m), stands i m refl) }

-- ---- each step of a transaction is one of its footprint

module _ (lines : ℕ) (N K : ℕ → Type 0) where
  named_orders : (cs : List Command) (rest : List (List ℕ)) (ss : List Step) → ((n : List ℕ) → n ∈ names_then cs rest → Means lines N K (name_of lines n))
      → (((n : List ℕ) → n ∈ rest → Means lines N K (name_of lines n)) → EachStep (Named lines N K) ss) → EachStep (Named lines N K) (command_steps cs ss)
  unfolding names_then command_steps
  named_orders [] rest ss f g = g f
  named_orders (command o w word name items ∷ cs) rest ss f g =
      (f name (Memᴰ.head refl), named_orders cs rest ss (λ n m. f n (Memᴰ.tail m)) g)

  named_triples : (ts : List Triple) (rest : List (List ℕ)) → ((n : List ℕ) → n ∈ triples_then ts rest → Means lines N K (name_of lines n))
      → EachMeans lines N K ts × ((n : List ℕ) → n ∈ rest → Means lines N K (name_of lines n))
  unfolding triples_then
  named_triples [] rest f = (tt, f)
  named_triples (triple a b d ∷ ts) rest f =
      let r = named_triples ts rest (λ n m. f n (Memᴰ.tail (Memᴰ.tail m))) in
      (((f a (Memᴰ.head refl), f b (Memᴰ.tail (Memᴰ.head refl))), r.0), r.1)

  named_steps : (acts : List Action) → ((c : Context) → c ∈ contexts_in acts → Seat lines N K c) → ((n : List ℕ) → n ∈ names_in acts → Means lines N K (name_of lines n))
      → EachStep (Named lines N K) (steps acts)
  unfolding contexts_in names_in steps
  named_steps [] f g = tt
  named_steps (action c ps cs ∷ acts) f g =
      let r = named_triples (triples_of ps) (names_then cs (names_in acts)) g in
      ((f c (Memᴰ.head refl), r.0), named_orders cs (names_in acts) (steps acts) r.1 (named_steps acts (λ d m. f d (Memᴰ.tail m))))

named : (t : List ℕ) (x : Transaction) → ContextsPlain x → NamesPlain x → EachStep (Named (fitted t) (Names (fitted t) x) (Reach t x)) (steps_of x)
named t (transaction id acts) p q = named_steps (fitted t) (Names (fitted t) x) (Reach t x) acts (λ c m. seat c m (p c m)) (λ n m. means n m (name_of (fitted t) n) refl (names_plain (fitted t) x q n m))
  where
    x : Transaction
    x = transaction id acts

    seat : (c : Context) → c ∈ contexts_in acts → ByNumberOrNull c → Seat (fitted t) (Names (fitted t) x) (Reach t x) c
    seat _ m (by_number {c = c}) = λ e. (known_above c e, known_below c e, writes m)
    seat _ m null_one = tt

    means : (n : List ℕ) → n ∈ names_in acts → (y : Name) → name_of (fitted t) n ≡ y → Plain (fitted t) y → Means (fitted t) (Names (fitted t) x) (Reach t x) y
    means n m _ e (a_termination h) = record { name = n; written = m; means = e }
    means n m _ e root = tt
    means n m _ e unknown = tt

-- ---- both orders, any mixture

module _ (st : State) (e : sound st.table ≡ true) (x y : Transaction) (A : Apart st.table x y) where
  abbrev t : List ℕ
  t = st.table

  disjoint : Disjoint (fitted t) (Names (fitted t) x) (Reach t x) (Names (fitted t) y) (Reach t y)
  disjoint =
      record {
        one = foot t x A.names_one;
        two = foot t y A.names_two;
        apart_terminations = A.terminations;
        apart_contexts = λ c a b. A.contexts c a.0 a.2 b.2;
      }

  ready : Ready (fitted t) (Names (fitted t) x) (Reach t x) (Names (fitted t) y) (Reach t y) (both_fresh st)
  ready = record { one_closed = closed t x e A.names_one; two_closed = closed t y e A.names_two; one_seats = tt; two_seats = tt }

  pub orders_alike : run_one (steps_of x) (run_two (steps_of y) (both_fresh st)) ≡ run_two (steps_of y) (run_one (steps_of x) (both_fresh st))
  orders_alike =
      exchange (fitted t) (Names (fitted t) x) (Reach t x) (Names (fitted t) y) (Reach t y) disjoint (steps_of x) (steps_of y) (both_fresh st)
      (named t x A.contexts_one A.names_one) (named t y A.contexts_two A.names_two) ready

  pub both_leave_blocks : (run_two (steps_of y) (run_one (steps_of x) (both_fresh st))).state.blocks ≡ st.blocks
  both_leave_blocks =
      blocks_stay (fitted t) (Names (fitted t) x) (Reach t x) (Names (fitted t) y) (Reach t y) disjoint (steps_of x) (steps_of y) (both_fresh st)
      (named t x A.contexts_one A.names_one) (named t y A.contexts_two A.names_two) ready

  pub mixture_alike : (z : Mixture (steps_of x) (steps_of y)) → mixed z (both_fresh st) ≡ run_two (steps_of y) (run_one (steps_of x) (both_fresh st))
  mixture_alike z =
      one_after_other (fitted t) (Names (fitted t) x) (Reach t x) (Names (fitted t) y) (Reach t y) disjoint z (both_fresh st)
      (named t x A.contexts_one A.names_one) (named t y A.contexts_two A.names_two) ready

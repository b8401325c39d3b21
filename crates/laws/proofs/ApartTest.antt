-- The conditions of demand 3 as computed tests; each test holds exactly when its condition does. A pair that passes them ends alike in both
-- orders.
use Prim.Native.Nat.{ℕ}
use mathlib.Core.Path.{◌≡◌, refl, sym, ap, subst}
use mathlib.Core.Bool.{true}
use mathlib.Core.List.Memᴰ
use mathlib.Core.List.{List}
use mathlib.Core.Logic.{◌↔◌, ◌⊎◌, inl, inr}
use mathlib.Core.Option.{some}
use borrow.Author.Tests.{not-true}
use Rattle.base.specs.Lists.{has}
use Rattle.megaco.specs.Bytes.{star, dollar}
use Rattle.megaco.specs.Tree.{Transaction}
use Rattle.megaco.specs.Table.{fitted, ctx, get, sound}
use Rattle.megaco.specs.State.{State}
use Rattle.megaco.specs.Names.{name_of}
use Rattle.protocol.specs.Types.{Context, Null, Numbered, Choose, All, Name, Termination, Root, Chosen, Unchosen, Wildcard, Unmatched, Unknown}
use Rattle.base.proofs.TestLaws.{clash, and_left, and_right}
use Rattle.laws.specs.Membership.{◌∈◌}
use Rattle.laws.specs.Apart.{contexts_of, names_of, ByNumberOrNull, by_number, null_one, ContextsPlain, NamesPlain, Names, Reaches, writes, stands, TerminationsApart, ContextsApart, Apart}
use Rattle.laws.specs.ApartTest.{by_number_or_null?, contexts_plain?, name_plain?, names_plain?, termination_of, written_number, named, numbered, standing, reached, terminations_apart?, contexts_apart?, apart?}
use Rattle.laws.specs.Demand.{EitherOrder}
use Rattle.laws.proofs.Membership.{has_not, not_has, all_is, is_all, none_shared, only_zero_shared, in_collect, collect_in}
use Rattle.laws.proofs.Demand.{either_order}

-- ---- contexts

by_number_is : (c : Context) → by_number_or_null? c ≡ true → ByNumberOrNull c
unfolding by_number_or_null?
by_number_is Null e = null_one
by_number_is (Numbered c) e = by_number
by_number_is Choose e = absurd (clash (sym e))
by_number_is All e = absurd (clash (sym e))

is_by_number : (c : Context) → ByNumberOrNull c → by_number_or_null? c ≡ true
unfolding by_number_or_null?
is_by_number _ null_one = refl
is_by_number _ by_number = refl

pub contexts_plain_is : (x : Transaction) → contexts_plain? x ≡ true ↔ ContextsPlain x
unfolding contexts_plain?
contexts_plain_is x =
    (λ e c m. by_number_is c (all_is by_number_or_null? (contexts_of x) e c m), λ h. is_all by_number_or_null? (contexts_of x) (λ c m. is_by_number c (h c m)))

-- ---- names

name_plain_is : (n : List ℕ) → name_plain? n ≡ true → (star ∈ n → ⊥) × (dollar ∈ n → ⊥)
unfolding name_plain?
name_plain_is n e =
    (not_has star n (not-true (has star n) (search (and_left, and_right))), not_has dollar n (not-true (has dollar n) (search (and_left, and_right))))

is_name_plain : (n : List ℕ) → (star ∈ n → ⊥) × (dollar ∈ n → ⊥) → name_plain? n ≡ true
unfolding name_plain?
is_name_plain n h = rw (has_not star n h.0, has_not dollar n h.1)

pub names_plain_is : (x : Transaction) → names_plain? x ≡ true ↔ NamesPlain x
unfolding names_plain?
names_plain_is x = (λ e n m. name_plain_is n (all_is name_plain? (names_of x) e n m), λ h. is_all name_plain? (names_of x) (λ n m. is_name_plain n (h n m)))

-- ---- terminations

termination_is : (n : Name) (i : ℕ) → termination_of n ≡ some i → n ≡ Termination i
unfolding termination_of
termination_is (Termination j) i e = ap Termination (cc)
termination_is Root i e = cc
termination_is Chosen i e = cc
termination_is Unchosen i e = cc
termination_is (Wildcard r) i e = cc
termination_is Unmatched i e = cc
termination_is Unknown i e = cc

names_named : (lines : ℕ) (x : Transaction) (i : ℕ) → Names lines x i → i ∈ named lines x
unfolding named termination_of
names_named lines x i m = in_collect (λ n. termination_of (name_of lines n)) (names_of x) m.name i m.written (ap termination_of m.means)

named_names : (lines : ℕ) (x : Transaction) (i : ℕ) → i ∈ named lines x → Names lines x i
unfolding named
named_names lines x i m =
    let r = collect_in (λ n. termination_of (name_of lines n)) (names_of x) i m in
    record { name = r.0; written = r.1; means = termination_is (name_of lines r.0) i r.2 }

pub terminations_apart_is : (lines : ℕ) (x y : Transaction) → terminations_apart? lines x y ≡ true ↔ TerminationsApart lines x y
unfolding terminations_apart?
terminations_apart_is lines x y = (
  λ e i m k. (none_shared (named lines x) (named lines y)).0 e i (names_named lines x i m) (names_named lines y i k),
  λ h. (none_shared (named lines x) (named lines y)).1 (λ i m k. h i (named_names lines x i m) (named_names lines y i k)),
)

-- ---- contexts reached

number_is : (c : Context) (n : ℕ) → written_number c ≡ some n → c ≡ Numbered n
unfolding written_number
number_is Null n e = cc
number_is (Numbered c) n e = ap Numbered (cc)
number_is Choose n e = cc
number_is All n e = cc

some_is : (a b : ℕ) → some a ≡ some b → a ≡ b
some_is a b e = cc

module _ (t : List ℕ) (x : Transaction) where
  reaches_reached : (c : ℕ) → Reaches t x c → c ∈ reached t x
  unfolding reached numbered standing written_number
  reaches_reached c (writes m) = Memᴰ.append_left (standing t (named (fitted t) x)) (in_collect written_number (contexts_of x) (Numbered c) c m refl)
  reaches_reached c (stands i m e) = Memᴰ.append_right (numbered x) (in_collect (λ j. some (get t (ctx j))) (named (fitted t) x) i c (names_named (fitted t) x i m) (ap some e))

  reached_reaches : (c : ℕ) → c ∈ reached t x → Reaches t x c
  unfolding reached numbered standing
  reached_reaches c m = by (Memᴰ.append_cases (numbered x) m)
    where
      by : (c ∈ numbered x) ⊎ (c ∈ standing t (named (fitted t) x)) → Reaches t x c
      by (inl m) = let r = collect_in written_number (contexts_of x) c m in writes (subst (λ (w : Context). w ∈ contexts_of x) (number_is r.0 c r.2) r.1)
      by (inr m) = let r = collect_in (λ j. some (get t (ctx j))) (named (fitted t) x) c m in stands r.0 (named_names (fitted t) x r.0 r.1) (some_is _ c r.2)

pub contexts_apart_is : (t : List ℕ) (x y : Transaction) → contexts_apart? t x y ≡ true ↔ ContextsApart t x y
unfolding contexts_apart?
contexts_apart_is t x y = (
  λ e c h a b. (only_zero_shared (reached t x) (reached t y)).0 e c h (reaches_reached t x c a) (reaches_reached t y c b),
  λ f. (only_zero_shared (reached t x) (reached t y)).1 (λ c h a b. f c h (reached_reaches t x c a) (reached_reaches t y c b)),
)

-- ---- all of them

pub apart_is : (t : List ℕ) (x y : Transaction) → apart? t x y ≡ true ↔ Apart t x y
unfolding apart?
apart_is t x y = (
  λ e. record {
    contexts_one = (contexts_plain_is x).0 (search (and_left, and_right));
    contexts_two = (contexts_plain_is y).0 (search (and_left, and_right));
    names_one = (names_plain_is x).0 (search (and_left, and_right));
    names_two = (names_plain_is y).0 (search (and_left, and_right));
    terminations = (terminations_apart_is (fitted t) x y).0 (search (and_left, and_right));
    contexts = (contexts_apart_is t x y).0 (search (and_left, and_right));
  },
  λ A. rw ((contexts_plain_is x).1 A.contexts_one, (contexts_plain_is y).1 A.contexts_two, (names_plain_is x).1 A.names_one, (names_plain_is y).1 A.names_two, (terminations_apart_is (fitted t) x y).1 A.terminations, (contexts_apart_is t x y).1 A.contexts),
)

pub tested_order : (st : State) → sound st.table ≡ true → (x y : Transaction) → apart? st.table x y ≡ true → EitherOrder st x y
tested_order st s x y e = either_order st s x y ((apart_is st.table x y).0 e)

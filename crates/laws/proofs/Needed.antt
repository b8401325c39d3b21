-- Each condition of demand 3 that sets the two transactions apart is needed: with one left out the claim is refuted, by a sound table and two
-- transactions whose order counts. That the table is sound is left out in none of them: no counterexample is shown for it.
use Prim.Native.Nat.{ℕ}
use mathlib.Core.Path.{◌≡◌, refl, sym, ◌∙◌}
use mathlib.Core.Bool.{Bool, true, false, not, ◌&&◌}
use mathlib.Core.List.{List, [], ◌∷◌}
use borrow.Author.Tests.{not-true}
use Rattle.base.specs.Lists.{has, same}
use Rattle.megaco.specs.Bytes.{star, dollar}
use Rattle.megaco.specs.Tree.{Transaction}
use Rattle.megaco.specs.Table.{fitted, sound}
use Rattle.megaco.specs.Transaction.{run_transaction}
use Rattle.protocol.specs.Types.{Numbered}
use Rattle.base.proofs.TestLaws.{clash, and_left, and_right}
use Rattle.laws.specs.Membership.{◌∈◌, all?, only_zero_shared?}
use Rattle.laws.specs.Apart.{contexts_of, names_of, TerminationsApart, ContextsApart, Apart}
use Rattle.laws.specs.ApartTest.{contexts_plain?, names_plain?, written_number, numbered}
use Rattle.laws.specs.Demand.{EitherOrder}
use Rattle.laws.specs.Witness.{read, with_words, start, lent}
use Rattle.laws.specs.Needed.{Claim, PlainContexts, PlainNames, NamesWithout, WrittenApart, bare, orders_alone}
use Rattle.laws.specs.Folding.{untied}
use Rattle.laws.proofs.Membership.{not_has, all_is, only_zero_shared, in_collect}
use Rattle.laws.proofs.Demand.{either_order}
use Rattle.laws.proofs.ApartTest.{apart_is, contexts_plain_is, names_plain_is, terminations_apart_is, contexts_apart_is}
use Rattle.laws.proofs.Witness.{tests}
use Rattle.laws.proofs.Linked.{same_refl}

pub demand_3_claims : Claim Apart
demand_3_claims st e x y = either_order st e x y

-- ---- a computed difference refutes a claim

-- both orders give the same words and bytes
unfoldable pub alike? : List ℕ → Transaction → Transaction → Bool
alike? t x y =
    let a = run_transaction x (lent t) in
    let b = run_transaction y (lent t) in
    let c = run_transaction y a.state in
    let d = run_transaction x b.state in
    same c.state.table d.state.table && same a.text d.text && same c.text b.text

order_counts : (t : List ℕ) (x y : Transaction) → alike? t x y ≡ false → EitherOrder (lent t) x y → ⊥
unfolding alike?
order_counts t x y e o = clash (sym holds ∙ e)
  where
    holds : alike? t x y ≡ true
    holds = rw (o.state, o.reply_one, o.reply_two) (rw (same_refl (run_transaction x (run_transaction y (lent t)).state).state.table, same_refl (run_transaction x (run_transaction y (lent t)).state).text, same_refl (run_transaction y (lent t)).text))

refute : (P : List ℕ → Transaction → Transaction → Type 0) (t : List ℕ) (x y : Transaction) → sound t ≡ true → alike? t x y ≡ false → P t x y → Claim P → ⊥
refute P t x y s e p claim = order_counts t x y e (claim (lent t) s x y p)

-- ---- the conditions, of both transactions

module _ (x y : Transaction) where
  plain_contexts : contexts_plain? x && contexts_plain? y ≡ true → PlainContexts x y
  plain_contexts e = ((contexts_plain_is x).0 (and_left _ (contexts_plain? y) e), (contexts_plain_is y).0 (and_right (contexts_plain? x) _ e))

  plain_names : names_plain? x && names_plain? y ≡ true → PlainNames x y
  plain_names e = ((names_plain_is x).0 (and_left _ (names_plain? y) e), (names_plain_is y).0 (and_right (names_plain? x) _ e))

  without : (b : ℕ) → all? (λ n. not (has b n)) (names_of x) ≡ true → all? (λ n. not (has b n)) (names_of y) ≡ true → NamesWithout b x y
  without b p q = (lacks x p, lacks y q)
    where
      lacks : (z : Transaction) → all? (λ n. not (has b n)) (names_of z) ≡ true → (n : List ℕ) → n ∈ names_of z → b ∈ n → ⊥
      lacks z e n m = not_has b n (not-true (has b n) (all_is (λ n. not (has b n)) (names_of z) e n m))

  written_apart : only_zero_shared? (numbered x) (numbered y) ≡ true → WrittenApart x y
  unfolding numbered written_number
  written_apart e c h a b =
      (only_zero_shared (numbered x) (numbered y)).0 e c h (in_collect written_number (contexts_of x) (Numbered c) c a refl) (in_collect written_number (contexts_of y) (Numbered c) c b refl)

-- ---- each one left out

abbrev eight : List ℕ
eight = with_words ((0, 1) ∷ (1, 1) ∷ (2, 1) ∷ (3, 1) ∷ (4, 1) ∷ (5, 1) ∷ (6, 1) ∷ (7, 1) ∷ (624, 1) ∷ [])

abbrev alone : List ℕ
alone = with_words ((0, 3) ∷ (1, 1) ∷ (624, 1) ∷ (626, 1) ∷ [])

-- contexts may be shared: eight in context 1, one leaves and one joins
pub shared_context : Claim (λ t x y. PlainContexts x y × PlainNames x y × TerminationsApart (fitted t) x y) → ⊥
shared_context =
    refute (λ t x y. PlainContexts x y × PlainNames x y × TerminationsApart (fitted t) x y) eight x y (unfold tests in refl) (unfold tests alike? in refl)
    (plain_contexts x y (unfold tests in refl), plain_names x y (unfold tests in refl), (terminations_apart_is (fitted eight) x y).0 (unfold tests in refl))
  where
    x : Transaction
    x = read "T=1{C=1{S=L/1/1}}"

    y : Transaction
    y = read "T=2{C=1{A=L/2/1}}"

-- the contexts written are apart, and where the terminations stand at the start is left out: L/1/1 alone in 3, L/1/2 in 1
pub start_contexts : Claim (λ t x y. PlainContexts x y × PlainNames x y × TerminationsApart (fitted t) x y × WrittenApart x y) → ⊥
start_contexts =
    refute (λ t x y. PlainContexts x y × PlainNames x y × TerminationsApart (fitted t) x y × WrittenApart x y) alone x y (unfold tests in refl) (unfold tests alike? in refl)
    (plain_contexts x y (unfold tests in refl), plain_names x y (unfold tests in refl), (terminations_apart_is (fitted alone) x y).0 (unfold tests in refl), written_apart x y (unfold tests in refl))
  where
    x : Transaction
    x = read "T=1{C=1{MV=L/1/1}}"

    y : Transaction
    y = read "T=2{C=3{A=L/2/1}}"

-- terminations may be shared: one channel, in either letter case, wanted in two contexts
pub shared_termination : Claim (λ t x y. PlainContexts x y × PlainNames x y × ContextsApart t x y) → ⊥
shared_termination =
    refute (λ t x y. PlainContexts x y × PlainNames x y × ContextsApart t x y) start x y (unfold tests in refl) (unfold tests alike? in refl)
    (plain_contexts x y (unfold tests in refl), plain_names x y (unfold tests in refl), (contexts_apart_is start x y).0 (unfold tests in refl))
  where
    x : Transaction
    x = read "T=1{C=1{A=L/3/1}}"

    y : Transaction
    y = read "T=2{C=2{A=l/3/1}}"

-- names may hold `$`: two ephemerals, both chosen
pub chosen_termination : Claim (λ t x y. PlainContexts x y × NamesWithout star x y × TerminationsApart (fitted t) x y × ContextsApart t x y) → ⊥
chosen_termination =
    refute (λ t x y. PlainContexts x y × NamesWithout star x y × TerminationsApart (fitted t) x y × ContextsApart t x y) start x y (unfold tests in refl) (unfold tests alike? in refl)
    (plain_contexts x y (unfold tests in refl), without x y star (unfold tests in refl) (unfold tests in refl), (terminations_apart_is (fitted start) x y).0 (unfold tests in refl), (contexts_apart_is start x y).0 (unfold tests in refl))
  where
    x : Transaction
    x = read "T=1{C=1{A=$}}"

    y : Transaction
    y = read "T=2{C=2{A=R/$}}"

-- names may hold `*`: all who stand elsewhere
pub wildcard : Claim (λ t x y. PlainContexts x y × NamesWithout dollar x y × TerminationsApart (fitted t) x y × ContextsApart t x y) → ⊥
wildcard =
    refute (λ t x y. PlainContexts x y × NamesWithout dollar x y × TerminationsApart (fitted t) x y × ContextsApart t x y) start x y (unfold tests in refl) (unfold tests alike? in refl)
    (plain_contexts x y (unfold tests in refl), without x y dollar (unfold tests in refl) (unfold tests in refl), (terminations_apart_is (fitted start) x y).0 (unfold tests in refl), (contexts_apart_is start x y).0 (unfold tests in refl))
  where
    x : Transaction
    x = read "T=1{C=1{MV=*}}"

    y : Transaction
    y = read "T=2{C=2{A=L/3/1}}"

-- contexts may be `$`: two contexts, both chosen
pub chosen_context : Claim (λ t x y. PlainNames x y × TerminationsApart (fitted t) x y × ContextsApart t x y) → ⊥
chosen_context =
    refute (λ t x y. PlainNames x y × TerminationsApart (fitted t) x y × ContextsApart t x y) start x y (unfold tests in refl) (unfold tests alike? in refl)
    (plain_names x y (unfold tests in refl), (terminations_apart_is (fitted start) x y).0 (unfold tests in refl), (contexts_apart_is start x y).0 (unfold tests in refl))
  where
    x : Transaction
    x = read "T=1{C=${A=L/3/1}}"

    y : Transaction
    y = read "T=2{C=${A=L/3/2}}"

-- ---- a name in a triple is written as a termination

-- names in triples are left out: R/5, in context 2, named in a triple of context 1 by one and subtracted by the other; 435 or 430 by order
pub unnamed_triple : Claim (λ t x y. Apart t (orders_alone x) (orders_alone y)) → ⊥
unnamed_triple =
    refute (λ t x y. Apart t (orders_alone x) (orders_alone y)) t x y (unfold tests in refl) (unfold tests alike? in refl)
    ((apart_is t (orders_alone x) (orders_alone y)).0 (unfold tests untied bare orders_alone in refl))
  where
    t : List ℕ
    t = with_words ((0, 1) ∷ (252, 2) ∷ (624, 1) ∷ (625, 1) ∷ (752, 16) ∷ [])

    x : Transaction
    x = read "T=1{C=1{TP{L/1/1,R/5,IS}}}"

    y : Transaction
    y = read "T=2{C=2{S=R/5}}"

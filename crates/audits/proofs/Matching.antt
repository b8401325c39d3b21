-- The terminations that a wildcard's audit matches: exactly those covered, in ascending number.
use Prim.Native.Nat.{ℕ, zero, suc, ◌+◌, ◌≤◌, ◌<◌}
use mathlib.Core.Path.{◌≡◌, refl, sym, ap, ap₂, ◌∙◌, subst}
use mathlib.Core.Logic.{◌↔◌, ◌⊎◌, inl, inr}
use mathlib.Core.Bool.{Bool, true, false, ◌&&◌}
use mathlib.Core.List.Memᴰ
use mathlib.Core.List.{List, [], ◌∷◌}
use mathlib.Core.Option.{some}
use lib.ListN.{length, get_or}
use lib.Dec.{eqb}
use borrow.Author.Tests.{eqb-true, eq-eqb}
use native.Mathlib.Nat.{add-zero}
use native.Mathlib.Omega.{arith}
use Rattle.base.specs.Pick.{pick}
use Rattle.base.proofs.TestLaws.{and_both, both_and, clash}
use Rattle.megaco.specs.Tree.{Items, command}
use Rattle.megaco.specs.Table.{terminations, words, fitted, ctx, cell, prop, get, context_words, exists, sound}
use Rattle.megaco.specs.State.{State}
use Rattle.megaco.specs.Names.{in_range, name_of, name_text}
use Rattle.megaco.specs.Items.{given?}
use Rattle.megaco.specs.Reply.{Report, refused}
use Rattle.megaco.specs.Attempt.{number_of, seen, is_choose}
use Rattle.megaco.specs.Command.{no_context, wanted, matches_from, matches, Targets, match_targets, not_for_root, targets_of, run_targets, command_error, op_of, run_command}
use Rattle.protocol.specs.Types.{Context, AuditValue, Range, Wildcard, Values}
use Rattle.laws.specs.Membership.{◌∈◌}
use Rattle.laws.specs.Sound.{Whole}
use Rattle.laws.proofs.Sound.{sound_whole, context_words_lem, context_at_lem}
use Rattle.audits.specs.Audits.{held_report, Rising, no_more, more, Covered, reports_of, Wild, ReportsWild}
use Rattle.audits.proofs.Reporting.{reported, attempts_report, settled_place, targets_run}

-- ---- they rise

rising_down : (i k : ℕ) (is : List ℕ) → i ≤ k → Rising k is → Rising i is
rising_down i k _ h no_more = no_more
rising_down i k _ h (more {j = j} l r) = more {i = i} {j = j} (omega arith) r

module _ (n c : ℕ) (r : Range) where
  abbrev from : ℕ → List ℕ → List ℕ
  from i xs = matches_from n AuditValue c r i xs

  abbrev fits : ℕ → ℕ → Bool
  fits i x = in_range n r i && exists n i x && wanted AuditValue c x

  from_rises : (i : ℕ) (xs : List ℕ) → Rising i (from i xs)
  unfolding matches_from pick
  from_rises i [] = no_more
  from_rises i (x ∷ xs) = by (fits i x) (from_rises (i + 1) xs)
    where
      by : (b : Bool) → Rising (i + 1) (from (i + 1) xs) → Rising i (pick b (i ∷ from (i + 1) xs) (from (i + 1) xs))
      by true h = more {i = i} {j = i} (omega arith) h
      by false h = rising_down i (i + 1) _ (omega arith) h

  -- ---- they are those that fit

  pub record Fit (i : ℕ) (xs : List ℕ) (j : ℕ) : Type 0 where
    pub place : ℕ
    pub within : place < length xs
    pub is : j ≡ i + place
    pub fit : fits j (get_or xs place 0) ≡ true

  in_fits : (i : ℕ) (xs : List ℕ) (j : ℕ) → j ∈ from i xs → Fit i xs j
  unfolding matches_from pick
  in_fits i [] j m = absurd (Memᴰ.not-nil m)
  in_fits i (x ∷ xs) j m = by (λ k. in_fits (i + 1) xs j k) (fits i x) refl m
    where
      later : Fit (i + 1) xs j → Fit i (x ∷ xs) j
      later f = record { place = suc f.place; within = omega (arith, f.within); is = omega (arith, f.is); fit = f.fit }

      first : (j ∈ from (i + 1) xs → Fit (i + 1) xs j) → fits i x ≡ true → (j ≡ i) ⊎ (j ∈ from (i + 1) xs) → Fit i (x ∷ xs) j
      first g e (inl q) = record { place = 0; within = omega arith; is = omega (arith, q); fit = rw q e }
      first g e (inr k) = later (g k)

      by : (j ∈ from (i + 1) xs → Fit (i + 1) xs j) → (b : Bool) → fits i x ≡ b → j ∈ pick b (i ∷ from (i + 1) xs) (from (i + 1) xs) → Fit i (x ∷ xs) j
      by g true e k = first g e (Memᴰ.cases_cons k)
      by g false e k = later (g k)

  fits_in : (i : ℕ) (xs : List ℕ) (j k : ℕ) → k < length xs → j ≡ i + k → fits j (get_or xs k 0) ≡ true → j ∈ from i xs
  unfolding matches_from pick
  fits_in i [] j k h q e = absurd (omega arith)
  fits_in i (x ∷ xs) j zero h q e = first (fits i x) (omega (arith, q)) (rw (← z) e)
    where
      z : j ≡ i
      z = omega (arith, q)

      first : (b : Bool) → j ≡ i → b ≡ true → j ∈ pick b (i ∷ from (i + 1) xs) (from (i + 1) xs)
      first true y f = Memᴰ.head y
      first false y f = absurd (clash (sym f))
  fits_in i (x ∷ xs) j (suc k) h q e = by (fits i x) (fits_in (i + 1) xs j k (omega arith) (omega (arith, q)) e)
    where
      by : (b : Bool) → j ∈ from (i + 1) xs → j ∈ pick b (i ∷ from (i + 1) xs) (from (i + 1) xs)
      by true m = Memᴰ.tail m
      by false m = m

-- ---- of a table

module _ (r : Range) (at : Context) (t : List ℕ) (l : length t ≡ words (fitted t)) where
  wanted_is : (x : ℕ) → wanted AuditValue (number_of at) x ≡ eqb x (number_of at)
  unfolding wanted
  wanted_is x = refl

  in_covered : (i : ℕ) → i ∈ matches AuditValue at r t → Covered r at t i
  unfolding matches
  in_covered i m =
      let f = in_fits (fitted t) (number_of at) r 0 (context_words t) i m in
      let z : f.place ≡ i = omega (arith, f.is) in
      let h : i < terminations (fitted t) = omega (arith, f.within, f.is, context_words_lem t l) in
      let w : get_or (context_words t) f.place 0 ≡ get t (ctx i) = rw z (context_at_lem t i h) in
      let a = and_both (in_range (fitted t) r i && exists (fitted t) i (get t (ctx i))) (wanted AuditValue (number_of at) (get t (ctx i))) (rw w at f.fit) in
      let b = and_both (in_range (fitted t) r i) (exists (fitted t) i (get t (ctx i))) a.0 in
      record { fits = h; there = b.1; range = b.0; stands = eqb-true (get t (ctx i)) (number_of at) (sym (wanted_is (get t (ctx i))) ∙ a.1) }

  covered_in : (i : ℕ) → Covered r at t i → i ∈ matches AuditValue at r t
  unfolding matches
  covered_in i c =
      fits_in (fitted t) (number_of at) r 0 (context_words t) i i (omega (arith, c.fits, context_words_lem t l)) (omega arith)
      (rw (context_at_lem t i c.fits) (both_and (in_range (fitted t) r i && exists (fitted t) i (get t (ctx i))) (wanted AuditValue (number_of at) (get t (ctx i)))
      (both_and (in_range (fitted t) r i) (exists (fitted t) i (get t (ctx i))) c.range c.there) (wanted_is (get t (ctx i)) ∙ eq-eqb (get t (ctx i)) (number_of at) c.stands)))

  matches_rise : Rising 0 (matches AuditValue at r t)
  unfolding matches
  matches_rise = from_rises (fitted t) (number_of at) r 0 (context_words t)

-- ---- what is reported of them

-- of those that stand in the action's context, what the table holds
held_all : (wild : Bool) (name : List ℕ) (given : ℕ) (vs : Values) (at : Context) (t is : List ℕ) → ((i : ℕ) → i ∈ is → get t (ctx i) ≡ number_of at)
    → reports_of (λ i. reported wild name given vs at t i (eqb (get t (ctx i)) (number_of at))) is ≡ reports_of (held_report vs t) is
unfolding pick
held_all wild name given vs at t [] h = refl
held_all wild name given vs at t (i ∷ is) h =
    ap₂ (λ (x : Report) (xs : List Report). x ∷ xs) (rw (eq-eqb (get t (ctx i)) (number_of at) (h i (Memᴰ.head refl)))) (held_all wild name given vs at t is (λ j m. h j (Memᴰ.tail m)))

-- the reports, by the matches
wild_reports : (name : List ℕ) (given : ℕ) (vs : Values) (at : Context) (st : State) (is : List ℕ) → is_choose at ≡ false → ((i : ℕ) → i ∈ is → get st.table (ctx i) ≡ number_of at)
    → ((run_targets AuditValue name given vs (match_targets is) at st).reports ≡ reports_of (held_report vs st.table) is) ⊎ ((is ≡ []) × ((run_targets AuditValue name given vs (match_targets is) at st).reports ≡ refused AuditValue name 431 ∷ []))
unfolding match_targets run_targets command_error
wild_reports name given vs at st [] n h = inr (refl, refl)
wild_reports name given vs at st (i ∷ is) n h = inl (attempts_report true name given vs (i ∷ is) at st n ∙ held_all true name given vs at st.table (i ∷ is) h)

pub reports_wild : ReportsWild
unfolding targets_of
reports_wild o w word name items vs given at st r s e l j n =
    let t : List ℕ = st.table in
    let W = sound_whole t s in
    let is : List ℕ = matches AuditValue at r t in
    let same : (run_command (command o w word name items) given at st).reports ≡ (run_targets AuditValue name given vs (match_targets is) at st).reports = targets_run o w word name items vs given at st e l j ∙ rw n in
    record {
      matched = is;
      exactly = λ i. (in_covered r at t W.long i, covered_in r at t W.long i);
      ascending = matches_rise r at t W.long;
      reports = same_reports same (wild_reports name given vs at st is (settled_place at _ l) (λ i m. (in_covered r at t W.long i m).stands));
    }
  where
    same_reports : {rs xs ys : List Report} {is : List ℕ} → rs ≡ xs → (xs ≡ ys) ⊎ ((is ≡ []) × (xs ≡ refused AuditValue name 431 ∷ [])) → (rs ≡ ys) ⊎ ((is ≡ []) × (rs ≡ refused AuditValue name 431 ∷ []))
    same_reports q (inl p) = inl (q ∙ p)
    same_reports q (inr p) = inr (p.0, q ∙ p.1)

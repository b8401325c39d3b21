-- What an attempt sees depends on its footprint alone.
use Prim.Native.Nat.{ℕ, ◌+◌, ◌*◌, ◌/◌, ◌≤◌, ◌<◌, min}
use mathlib.Core.Path.{◌≡◌, refl, sym, ap, ◌∙◌, subst}
use mathlib.Core.Bool.{Bool, true, false}
use mathlib.Core.List.{List}
use lib.Dec.{eqb, leb, ltb}
use native.Mathlib.Omega.{arith}
use borrow.Author.Tests.{leb-true, ltb-true}
use Rattle.base.specs.Pick.{pick}
use Rattle.megaco.specs.Table.{terminations, contexts, fitted, prop, rec, flow, low_flow, high_flow, ctx, cell, get, known, members, place_in}
use Rattle.megaco.specs.Attempt.{unseen, seen_in, seen, number_of, free_at, look}
use Rattle.protocol.specs.Types.{Context, Null, Numbered, Choose, All, Seen}
use Rattle.base.proofs.TestLaws.{clash, and_left, and_right}
use Rattle.megaco.proofs.Sizes.{fitted_same}
use Rattle.megaco.proofs.Regions.{members_first, place_first}
use Rattle.laws.proofs.Counting.{count_agree}
use Rattle.laws.proofs.Frame.{Foot, Closed, Agree}

pub known_above : (c : ℕ) → known c ≡ true → 0 < c
unfolding known
known_above c e = ltb-true 0 c (and_left (ltb 0 c) (leb c contexts) e)

pub known_below : (c : ℕ) → known c ≡ true → c ≤ contexts
unfolding known
known_below c e = leb-true c contexts (and_right (ltb 0 c) (leb c contexts) e)

-- what is known of a context that is none of 1..128 is 0
pub held_known : (c : ℕ) (t : List ℕ) → eqb (seen c t).held 0 ≡ false → known c ≡ true
unfolding seen pick
held_known c t = by (known c)
  where
    by : (b : Bool) → eqb (pick b (seen_in c t) unseen).held 0 ≡ false → b ≡ true
    by true e = refl
    by false e = absurd (clash e)

module _ (lines : ℕ) (N K : ℕ → Type 0) where
  -- a context that a step stands in
  abbrev pub Seat : Context → Type 0
  Seat Null = Unit {0}
  Seat (Numbered c) = known c ≡ true → K c
  Seat Choose = ⊥
  Seat All = ⊥

  -- null has no number to be known
  pub seat_known : (w : Context) → Seat w → known (number_of w) ≡ true → K (number_of w)
  unfolding number_of known
  seat_known Null s e = absurd (clash (sym e))
  seat_known (Numbered c) s e = s e
  seat_known Choose s e = absurd s
  seat_known All s e = absurd s

  -- the words of a context's flows are the context's
  module _ (F : Foot lines N K) (c : ℕ) (k : K c) where
    pub low_there : low_flow c < 2 * contexts
    low_there = omega (arith, F.above c k, F.below c k)

    pub high_there : high_flow c < 2 * contexts
    high_there = omega (arith, F.above c k, F.below c k)

    pub low_mine : K (low_flow c / 2 + 1)
    low_mine = let e : c ≡ low_flow c / 2 + 1 = omega (arith, F.above c k) in subst K e k

    pub high_mine : K (high_flow c / 2 + 1)
    high_mine = let e : c ≡ high_flow c / 2 + 1 = omega (arith, F.above c k) in subst K e k

  module _ (F : Foot lines N K) (t u : List ℕ) (a : Agree lines N K t u) (f : fitted t ≡ lines) where
    members_alike : (c : ℕ) → K c → members c t ≡ members c u
    members_alike c k = rw (members_first t c, members_first u c, f, sym (fitted_same t u a.long) ∙ f) (count_agree (terminations lines) c t u a.long (a.stand c k))

    seen_same : (c : ℕ) → (known c ≡ true → K c) → seen c t ≡ seen c u
    unfolding seen pick
    seen_same c s = by (known c) refl
      where
        by : (x : Bool) → known c ≡ x
            → ◌≡◌ {A = Seen} (pick x (seen_in c t) unseen) (pick x (seen_in c u) unseen)
        by true e =
            λ j. record {
              held = a.same (cell (rec c)) (F.above c (s e), F.below c (s e)) (s e) j;
              members = members_alike c (s e) j;
              low = a.same (cell (flow (low_flow c))) (low_there F c (s e)) (low_mine F c (s e)) j;
              high = a.same (cell (flow (high_flow c))) (high_there F c (s e)) (high_mine F c (s e)) j;
            }
        by false e = refl

    -- the place of a termination among the members of a context
    pub place_same : (c i : ℕ) → (known c ≡ true → K c) → i < terminations lines → place_in c i t ≡ place_in c i u
    unfolding place_in pick
    place_same c i s h = by (known c) refl
      where
        by : (x : Bool) → known c ≡ x → place_in c i t ≡ place_in c i u
        by true e =
            place_first t c i e
            ∙ rw (f, sym (fitted_same t u a.long) ∙ f) (count_agree (min i (terminations lines)) c t u a.long (λ j b. a.stand c (s e) j (omega (arith, b, h))))
            ∙ sym (place_first u c i e)
        by false e = rw e

    -- what is seen of the context that a step stands in
    pub seat_same : (w : Context) → Seat w → seen (number_of w) t ≡ seen (number_of w) u
    seat_same w s = seen_same (number_of w) (seat_known w s)

    free_same : (w : Context) → Seat w → free_at w t ≡ free_at w u
    unfolding free_at
    free_same Null s = refl
    free_same (Numbered c) s = refl
    free_same Choose s = absurd s
    free_same All s = absurd s

    pub look_same : (w : Context) (i : ℕ) → Closed lines N K t → Seat w → N i → look w i t ≡ look w i u
    unfolding look
    look_same w i c s m =
        let b : i < terminations lines = F.small i m in
        let p : get t (ctx i) ≡ get u (ctx i) = a.same (ctx i) b m in
        let q : get t (cell (prop i)) ≡ get u (cell (prop i)) = a.same (cell (prop i)) b m in
        let y : seen (get t (ctx i)) t ≡ seen (get t (ctx i)) u = seen_same (get t (ctx i)) (λ e. c.home i m (known_above (get t (ctx i)) e)) in
        let z : seen (get t (ctx i)) t ≡ seen (get u (ctx i)) u = y ∙ ap (λ (d : ℕ). seen d u) p in
        let g : place_in (get t (ctx i)) i t ≡ place_in (get t (ctx i)) i u = place_same (get t (ctx i)) i (λ e. c.home i m (known_above (get t (ctx i)) e)) b in
        let o : place_in (get t (ctx i)) i t ≡ place_in (get u (ctx i)) i u = g ∙ ap (λ (d : ℕ). place_in d i u) p in
        λ j. record { here = p j; word = q j; there = seat_same w s j; from = z j; free = free_same w s j; lines = fitted_same t u a.long j; into = place_same (number_of w) i (seat_known w s) b j; out = o j }

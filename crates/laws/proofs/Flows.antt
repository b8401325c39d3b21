-- The flows of a context, sound: as facts, and both ways to the test; and what keeps them so.
use Prim.Native.Nat.{ℕ, zero, suc, ◌+◌, ◌-◌, ◌^◌, ◌≤◌, ◌<◌}
use mathlib.Core.Path.{◌≡◌, refl, sym, ap, ◌∙◌, subst}
use mathlib.Core.Logic.{◌≢◌}
use mathlib.Core.Bool.{Bool, true, false, not, ◌&&◌, ◌||◌}
use mathlib.Core.List.{List, [], ◌∷◌}
use lib.ListN.{length, get_or}
use lib.Dec.{ltb, eqb}
use borrow.Author.Tests.{eqb-true, eqb-false, ne_eqb, ltb-true, ltb-false, lt-ltb, not-true, not-false}
use native.Mathlib.Omega.{arith}
use Rattle.base.specs.Pick.{pick}
use Rattle.base.proofs.TestLaws.{clash, and_both, both_and, and_false, pick_both, both_pick, pick_other, other_pick}
use Rattle.protocol.specs.Types.{Direction, Isolate, Oneway, Bothway}
use Rattle.megaco.specs.Square.{Square, square_of, low_of, high_of, flow_at, may_flow, row_is_sound, rows_are_sound, square_is_sound, paired, directed, joined_flow, joined, parted_flow, parted}
use Rattle.megaco.proofs.Squares.{AllEight, Shape, square_back, low_below, high_below, shape_of, flow_in, flow_within, shape_paired, flow_paired, flow_joined, flow_parted}
use Rattle.laws.specs.Sound.{Fit, SoundFlows}
use Rattle.laws.proofs.PartedFlows.{parted_may}

-- ---- the test of a square

may_is : (m i j : ℕ) → may_flow m i j ≡ true → (i < m) × (j < m) × (i ≢ j)
unfolding may_flow
may_is m i j e =
    let b = and_both (ltb i m && ltb j m) (not (eqb i j)) e in
    let a = and_both (ltb i m) (ltb j m) b.0 in
    (ltb-true i m a.0, ltb-true j m a.1, eqb-false i j (not-true (eqb i j) b.1))

is_may : (m i j : ℕ) → i < m → j < m → i ≢ j → may_flow m i j ≡ true
unfolding may_flow
is_may m i j p q d = rw (lt-ltb i m p, lt-ltb j m q, ne_eqb i j d)

row_fit : (m i j : ℕ) (r : List Bool) → row_is_sound m i j r ≡ true → (b k : ℕ) → k ≡ j + b → get_or r b false ≡ true → may_flow m i k ≡ true
unfolding row_is_sound
row_fit m i j [] e b k n f = absurd (clash (sym f))
row_fit m i j (x ∷ r) e zero k n f =
    let p = (pick_other (x && not (may_flow m i j)) (row_is_sound m i (j + 1) r) e).0 in
    let o : k ≡ j = omega (arith, n) in
    rw o (not-false (may_flow m i j) (and_false x (not (may_flow m i j)) f p))
row_fit m i j (x ∷ r) e (suc b) k n f = row_fit m i (j + 1) r (pick_other (x && not (may_flow m i j)) (row_is_sound m i (j + 1) r) e).1 b k (omega (arith, n)) f

fit_row : (m i j : ℕ) (r : List Bool) → ((b k : ℕ) → b < length r → k ≡ j + b → get_or r b false ≡ true → may_flow m i k ≡ true) → row_is_sound m i j r ≡ true
unfolding row_is_sound
fit_row m i j [] f = refl
fit_row m i j (x ∷ r) f =
    other_pick (x && not (may_flow m i j)) (row_is_sound m i (j + 1) r) (by x refl) (fit_row m i (j + 1) r (λ b k h n. f (suc b) k (omega arith) (omega (arith, n))))
  where
    by : (y : Bool) → x ≡ y → y && not (may_flow m i j) ≡ false
    by true e = ap not (f 0 j (omega arith) (omega arith) e)
    by false e = refl

rows_fit : (m i : ℕ) (q : Square) → rows_are_sound m i q ≡ true → (a b k : ℕ) → k ≡ i + a → get_or (get_or q a []) b false ≡ true → may_flow m k b ≡ true
unfolding rows_are_sound
rows_fit m i [] e a b k n f = absurd (clash (sym f))
rows_fit m i (r ∷ q) e zero b k n f =
    let o : k ≡ i = omega (arith, n) in
    rw o (row_fit m i 0 r (pick_both (row_is_sound m i 0 r) (rows_are_sound m (i + 1) q) e).0 b b (omega arith) f)
rows_fit m i (r ∷ q) e (suc a) b k n f = rows_fit m (i + 1) q (pick_both (row_is_sound m i 0 r) (rows_are_sound m (i + 1) q) e).1 a b k (omega (arith, n)) f

fit_rows : (m i : ℕ) (q : Square) → AllEight q
    → ((a b k : ℕ) → a < length q → b < 8 → k ≡ i + a → get_or (get_or q a []) b false ≡ true → may_flow m k b ≡ true) → rows_are_sound m i q ≡ true
unfolding rows_are_sound AllEight
fit_rows m i [] e f = refl
fit_rows m i (r ∷ q) e f =
    both_pick (row_is_sound m i 0 r) (rows_are_sound m (i + 1) q)
    (fit_row m i 0 r (λ b k h n g. let o : k ≡ b = omega (arith, n) in rw o (f 0 b i (omega arith) (omega (arith, e.0)) (omega arith) g)))
    (fit_rows m (i + 1) q e.1 (λ a b k h l n. f (suc a) b k (omega arith) l (omega (arith, n))))

pub fit_is : (m : ℕ) (q : Square) → square_is_sound m q ≡ true → Fit m q
unfolding square_is_sound
fit_is m q e a b f = let w = flow_within q a b f in may_is m a b (rows_fit m 0 q e a b a (omega arith) (sym (flow_in q a b w.0 w.1) ∙ f))

pub is_fit : (m : ℕ) (q : Square) → Shape q → Fit m q → square_is_sound m q ≡ true
unfolding square_is_sound
is_fit m q s f =
    fit_rows m 0 q s.eights
    (λ a b k h l n g.
    let o : k ≡ a = omega (arith, n) in
    let w : a < 8 = omega (arith, s.long) in
    let p = f a b (flow_in q a b w l ∙ g) in
    rw o (is_may m a b p.0 p.1 p.2))

-- ---- the test of two words

pub flows_sound : (l h m : ℕ) → ltb l (2 ^ 32) && ltb h (2 ^ 32) && square_is_sound m (square_of l h) ≡ true → SoundFlows l h m
flows_sound l h m e =
    let b = and_both (ltb l (2 ^ 32) && ltb h (2 ^ 32)) (square_is_sound m (square_of l h)) e in
    let a = and_both (ltb l (2 ^ 32)) (ltb h (2 ^ 32)) b.0 in
    record { low = ltb-true l (2 ^ 32) a.0; high = ltb-true h (2 ^ 32) a.1; fit = fit_is m (square_of l h) b.1 }

pub sound_flows : (l h m : ℕ) → SoundFlows l h m → ltb l (2 ^ 32) && ltb h (2 ^ 32) && square_is_sound m (square_of l h) ≡ true
sound_flows l h m s =
    both_and (ltb l (2 ^ 32) && ltb h (2 ^ 32)) (square_is_sound m (square_of l h))
    (both_and (ltb l (2 ^ 32)) (ltb h (2 ^ 32)) (lt-ltb l (2 ^ 32) s.low) (lt-ltb h (2 ^ 32) s.high))
    (is_fit m (square_of l h) (shape_of l h) s.fit)

pub sound_packed : (q : Square) (m : ℕ) → Shape q → Fit m q → SoundFlows (low_of q) (high_of q) m
sound_packed q m s f = record { low = low_below q s; high = high_below q s; fit = subst (Fit m) (sym (square_back q s)) f }

-- ---- what keeps the flows of a context sound

-- a member joins
joined_may : (q : Square) (m k a b : ℕ) → joined_flow q m k a b ≡ true → (a < m) × (b < m) × (a ≢ b)
unfolding joined_flow pick
joined_may q m k a b e = by (ltb a m) (ltb b m) (eqb a b) refl refl refl e
  where
    there : Bool
    there = pick (eqb a k || eqb b k) true (flow_at q (pick (ltb k a) (a - 1) a) (pick (ltb k b) (b - 1) b))

    by : (x y z : Bool) → ltb a m ≡ x → ltb b m ≡ y → eqb a b ≡ z → pick (x && y) (pick z false there) false ≡ true → (a < m) × (b < m) × (a ≢ b)
    by true true false p r u e = (ltb-true a m p, ltb-true b m r, eqb-false a b u)
    by true true true p r u e = absurd (clash (sym e))
    by true false z p r u e = absurd (clash (sym e))
    by false y z p r u e = absurd (clash (sym e))

pub fit_joined : (q : Square) (m k : ℕ) → Fit m (joined q m k)
fit_joined q m k a b e = let w = flow_within (joined q m k) a b e in joined_may q m k a b (sym (flow_joined q m k a b w.0 w.1) ∙ e)

-- a member leaves
pub fit_parted : (q : Square) (m k : ℕ) → k < m → Fit m q → Fit (m - 1) (parted q k)
fit_parted q m k h f a b e = let w = flow_within (parted q k) a b e in parted_may q m k a b h f (sym (flow_parted q k a b w.0 w.1) ∙ e)

-- a pair of members is set
pub fit_paired : (q : Square) (m i j : ℕ) (x y : Bool) → Shape q → m ≤ 8 → i < m → j < m → i ≢ j → Fit m q → Fit m (paired q i j x y)
unfolding pick
fit_paired q m i j x y s l h k d f a b e =
    let w = flow_within (paired q i j x y) a b e in
    by (eqb a j && eqb b i) refl (sym (flow_paired q i j a b x y s (omega arith) (omega arith) w.0 w.1) ∙ e)
  where
    inner : (g : Bool) → eqb a i && eqb b j ≡ g → pick g x (flow_at q a b) ≡ true → (a < m) × (b < m) × (a ≢ b)
    inner true p e =
        let z = and_both (eqb a i) (eqb b j) p in
        let u : a ≡ i = eqb-true a i z.0 in
        let v : b ≡ j = eqb-true b j z.1 in
        (omega (arith, u), omega (arith, v), λ n. d (sym u ∙ n ∙ v))
    inner false p e = f a b e

    by : (g : Bool) → eqb a j && eqb b i ≡ g → pick g y (pick (eqb a i && eqb b j) x (flow_at q a b)) ≡ true → (a < m) × (b < m) × (a ≢ b)
    by true p e =
        let z = and_both (eqb a j) (eqb b i) p in
        let u : a ≡ j = eqb-true a j z.0 in
        let v : b ≡ i = eqb-true b i z.1 in
        (omega (arith, u), omega (arith, v), λ n. d (sym v ∙ sym n ∙ u))
    by false p e = inner (eqb a i && eqb b j) refl e

pub shape_directed : (d : Direction) (i j : ℕ) (q : Square) → Shape q → Shape (directed d i j q)
unfolding directed
shape_directed Isolate i j q s = shape_paired q i j false false s
shape_directed Oneway i j q s = shape_paired q i j true false s
shape_directed Bothway i j q s = shape_paired q i j true true s

pub fit_directed : (d : Direction) (q : Square) (m i j : ℕ) → Shape q → m ≤ 8 → i < m → j < m → i ≢ j → Fit m q → Fit m (directed d i j q)
unfolding directed
fit_directed Isolate q m i j s l h k n f = fit_paired q m i j false false s l h k n f
fit_directed Oneway q m i j s l h k n f = fit_paired q m i j true false s l h k n f
fit_directed Bothway q m i j s l h k n f = fit_paired q m i j true true s l h k n f

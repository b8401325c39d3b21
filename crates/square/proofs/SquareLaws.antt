-- The square of flows: the laws of the code's returns.
use Prim.Native.Nat.{ℕ, zero, suc, ◌+◌, ◌-◌, ◌*◌, ◌/◌, ◌%◌, ◌^◌, ◌<◌, ◌≤◌}
use mathlib.Core.Path.{◌≡◌, refl, sym, ap, ◌∙◌}
use mathlib.Core.Bool.{Bool, true, false, ◌&&◌}
use mathlib.Core.List.{List, [], ◌∷◌, ◌++◌}
use native.Mathlib.Numerals.{add-one}
use native.Mathlib.Nat.{pow-succ'}
use native.Mathlib.Omega.{arith}
use lib.Pow.{pow-lt}
use lib.ListN.{length, get_or, set, take, drop, drop_of_length-le}
use lib.Seq.{drop-cons}
use lib.Dec.{eqb, ltb}
use borrow.Author.Tests.{ltb-true, ltb-false, lt-ltb, le-ltb, eq-eqb, ne_eqb, eqb-true, eqb-false}
use mir.Val.{bool_byte}
use Rattle.base.specs.Pick.{pick}
use Rattle.megaco.specs.Square.{Square, bits, of_bits, rows, of_rows, square_of, low_of, high_of, flow_at, paired, directed, joined_flow, joined_row, up_to}
use Rattle.square.proofs.ArrayLaws.{each_place}
use Rattle.protocol.specs.Types.{Direction, Isolate, Oneway, Bothway}

-- ---- the code's returns
-- two words, row by row
pub unpacked : (a b : ℕ) (ys : List (List Bool)) → length ys ≡ 8 → ((k : ℕ) (e : List Bool) → k < 4 → get_or ys k e ≡ bits 8 (a / 2 ^ (8 * k) % 256))
    → ((k : ℕ) (e : List Bool) → k < 4 → get_or ys (4 + k) e ≡ bits 8 (b / 2 ^ (8 * k) % 256)) → ys ≡ square_of a b
unfolding square_of rows up_to pick
unpacked a b ys l p q = each_place 8 f ys l at ∙ eight_rows
  where
    f : ℕ → List Bool
    f i = pick (ltb i 4) (bits 8 (a / 2 ^ (8 * i) % 256)) (bits 8 (b / 2 ^ (8 * (i - 4)) % 256))

    at : (i : ℕ) (e : List Bool) → i < 8 → get_or ys i e ≡ f i
    at i e h = by (ltb i 4) refl
      where
        by : (t : Bool) → ltb i 4 ≡ t → get_or ys i e ≡ pick t (bits 8 (a / 2 ^ (8 * i) % 256)) (bits 8 (b / 2 ^ (8 * (i - 4)) % 256))
        by true o = p i e (ltb-true i 4 o)
        by false o =
            let m : i ≡ 4 + (i - 4) = omega (arith, ltb-false i 4 o) in
            ap (λ (n : ℕ). get_or ys n e) m ∙ q (i - 4) e (omega (arith, h))

    one : (w : ℕ) → w / 256 / 256 ≡ w / 65536
    one w = omega arith

    two : (w : ℕ) → w / 256 / 256 / 256 ≡ w / 16777216
    two w = omega arith

    none : (w : ℕ) → w / 1 ≡ w
    none w = omega arith

    eight_rows : up_to 8 f ≡ rows 4 a ++ rows 4 b
    eight_rows = rw (two a, two b, one a, one b, none a, none b)

-- ---- rows by their places
row_alike : {A : Type 0} (n : ℕ) (f g : ℕ → A) → ((j : ℕ) → j < n → f j ≡ g j) → up_to n f ≡ up_to n g
unfolding up_to
row_alike zero f g e = refl
row_alike (suc n) f g e = rw (e 0 (omega arith), row_alike n (λ j. f (suc j)) (λ j. g (suc j)) (λ j h. e (suc j) (omega (arith, h))))

both_one_more : (a b : ℕ) → eqb (suc a) (suc b) ≡ eqb a b
both_one_more a b = by (eqb a b) refl
  where
    by : (t : Bool) → eqb a b ≡ t → eqb (suc a) (suc b) ≡ t
    by true e = eq-eqb (suc a) (suc b) (omega (arith, eqb-true a b e))
    by false e = ne_eqb (suc a) (suc b) (λ p. eqb-false a b e (omega (arith, p)))

set_place : (n i : ℕ) (f : ℕ → Bool) → set (up_to n f) i false ≡ up_to n (λ j. pick (eqb j i) false (f j))
unfolding up_to pick
set_place zero i f = refl
set_place (suc n) zero f = ap (λ (r : List Bool). false ∷ r) (row_alike n (λ j. f (suc j)) (λ j. pick (eqb (suc j) 0) false (f (suc j))) after)
  where
    after : (j : ℕ) → j < n → f (suc j) ≡ pick (eqb (suc j) 0) false (f (suc j))
    after j h = rw (ne_eqb (suc j) 0 (λ e. omega (arith, e)))
set_place (suc n) (suc i) f =
    rw (ne_eqb 0 (suc i) (λ e. omega (arith, e)))
    (ap (λ (r : List Bool). f 0 ∷ r) (set_place n i (λ j. f (suc j)) ∙ row_alike n (λ j. pick (eqb j i) false (f (suc j))) (λ j. pick (eqb (suc j) (suc i)) false (f (suc j))) after))
  where
    after : (j : ℕ) → j < n → pick (eqb j i) false (f (suc j)) ≡ pick (eqb (suc j) (suc i)) false (f (suc j))
    after j h = rw (both_one_more j i)

place_of_row : (n j : ℕ) (f : ℕ → Bool) → j < n → get_or (up_to n f) j false ≡ f j
unfolding up_to
place_of_row zero j f h = absurd (omega arith)
place_of_row (suc n) zero f h = refl
place_of_row (suc n) (suc j) f h = place_of_row n j (λ k. f (suc k)) (omega arith)

-- ---- a number past the row
-- none of some numbers
abbrev pub NoneOf : List ℕ → ℕ → Type 0
NoneOf [] x = Unit {0}
NoneOf (k ∷ ks) x = NoneOf ks x × (x ≡ k → ⊥)

-- the numbers below n, the highest first
abbrev pub down_from : ℕ → List ℕ
down_from zero = []
down_from (suc n) = n ∷ down_from n

pub large : (n m : ℕ) → NoneOf (down_from n) m → n ≤ m
large zero m h = omega arith
large (suc n) m h = let k = large n m h.0 in let d = h.1 in omega (arith, k, d)

-- ---- a member joins
eqb_turned : (a b : ℕ) → eqb a b ≡ eqb b a
eqb_turned a b = by (eqb b a) refl
  where
    by : (t : Bool) → eqb b a ≡ t → eqb a b ≡ t
    by true e = eq-eqb a b (sym (eqb-true b a e))
    by false e = ne_eqb a b (λ p. eqb-false b a e (sym p))

before_small : (k i : ℕ) → i < 8 → pick (ltb k i) (i - 1) i < 8
unfolding pick
before_small k i h = by (ltb k i)
  where
    by : (t : Bool) → pick t (i - 1) i < 8
    by true = omega arith
    by false = h

within : (q : Square) (a b : ℕ) → a < 8 → b < 8 → flow_at q a b ≡ get_or (get_or q a []) b false
unfolding flow_at pick
within q a b h g = rw (lt-ltb a 8 h, lt-ltb b 8 g)

-- the order in which the tests are made does not matter
tests_turned : (x y : Bool) (w : Bool) → pick x false (y && w) ≡ pick y (pick x false w) false
unfolding pick
tests_turned true true w = refl
tests_turned true false w = refl
tests_turned false true w = refl
tests_turned false false w = refl

module _ (q : Square) (m k i : ℕ) (used : List Bool) (u : used ≡ up_to 8 (λ j. ltb j m)) (h : i < 8) where
  -- between two that were there
  pub joined_else : (a : ℕ) (o b s : List Bool) → i < m → (i ≡ k → ⊥) → a ≡ pick (ltb k i) (i - 1) i
      → o ≡ up_to 8 (λ j. pick (eqb j k) true (get_or (get_or q a []) (pick (ltb k j) (j - 1) j) false)) → b ≡ up_to 8 (λ j. get_or used j false && get_or o j false)
      → s ≡ set b i false → s ≡ joined_row q m k i
  unfolding joined_row joined_flow
  joined_else a o b s im ik ea eo eb es = es ∙ rw eb (set_place 8 i _) ∙ row_alike 8 _ _ at_place
    where
      at_place : (j : ℕ) → j < 8 → pick (eqb j i) false (get_or used j false && get_or o j false) ≡ joined_flow q m k i j
      at_place j l =
          let there = within q (pick (ltb k i) (i - 1) i) (pick (ltb k j) (j - 1) j) (before_small k i h) (before_small k j l) in
          rw (
            u,
            place_of_row 8 j (λ n. ltb n m) l,
            eo,
            place_of_row 8 j (λ n. pick (eqb n k) true (get_or (get_or q a []) (pick (ltb k n) (n - 1) n) false)) l,
            lt-ltb i m im,
            ne_eqb i k ik,
            there,
            ea,
            eqb_turned i j,
          ) (tests_turned (eqb j i) (ltb j m) _)

  -- the one that joins
  pub joined_self : (s : List Bool) → i < m → i ≡ k → s ≡ set used i false → s ≡ joined_row q m k i
  unfolding joined_row joined_flow pick
  joined_self s im ik es = es ∙ rw u (set_place 8 i _) ∙ row_alike 8 _ _ at_place
    where
      at_place : (j : ℕ) → j < 8 → pick (eqb j i) false (ltb j m) ≡ joined_flow q m k i j
      at_place j l = rw (lt-ltb i m im, eq-eqb i k ik, eqb_turned i j) (by (eqb j i) (ltb j m))
        where
          by : (x y : Bool) → pick x false y ≡ pick y (pick x false true) false
          by true true = refl
          by true false = refl
          by false true = refl
          by false false = refl

  -- no member
  pub joined_none : m ≤ i → (false ∷ false ∷ false ∷ false ∷ false ∷ false ∷ false ∷ false ∷ []) ≡ joined_row q m k i
  unfolding joined_row joined_flow pick up_to
  joined_none l = rw (le-ltb i m l)

-- a bit as a number
pub bit_pick : (b : Bool) (n r : ℕ) → r ≡ bool_byte b + 2 * n → (r ≡ pick b 1 0 + 2 * n) × (r ≤ 2 * n + 1)
unfolding pick
bit_pick true n r e = (e, omega (arith, e))
bit_pick false n r e = (e, omega (arith, e))

-- one bit, and one row, before a number
bit_on : (r : List Bool) (k n m : ℕ) → k < length r → n ≡ of_bits (drop (suc k) r) → m ≡ pick (get_or r k false) 1 0 + 2 * n → m ≡ of_bits (drop k r)
unfolding of_bits
bit_on r k n m h e p = p ∙ rw (e, drop-cons r k false)

no_more : (r : List Bool) → length r ≤ 8 → 0 ≡ of_bits (drop 8 r)
unfolding of_bits
no_more r h = rw (drop_of_length-le r h)

module _ (r : List Bool) (l : length r ≡ 8) where
  pub number_start : (0 ≡ of_bits (drop (8 - 0) r)) × (0 < 2 ^ 0)
  number_start = (no_more r (omega arith), omega arith)

  pub number_on : (j n m : ℕ) → j < 8 → n ≡ of_bits (drop (8 - j) r) → m ≡ pick (get_or r (7 - j) false) 1 0 + 2 * n → m ≡ of_bits (drop (8 - (j + 1)) r)
  number_on j n m h i e =
      let s : 8 - j ≡ suc (7 - j) = omega arith in
      let t : 8 - (j + 1) ≡ 7 - j = omega arith in
      rw t (bit_on r (7 - j) n m (omega (arith, l)) (rw s at i) e)

  pub number_end : (j n : ℕ) → 8 ≤ j → j ≤ 8 → (n ≡ of_bits (drop (8 - j) r)) × (n < 2 ^ j) → (n ≡ of_bits r) × (n < 256)
  number_end j n h k i = let m : j ≡ 8 = omega arith in rw m at i

pub number_grows : (j n m : ℕ) → n < 2 ^ j → m ≤ 2 * n + 1 → m < 2 ^ (j + 1)
number_grows j n m h e = let p : 2 ^ suc j ≡ 2 * 2 ^ j = pow-succ' 2 j in rw (add-one j) (omega (arith, p))

pub number_small : (j n : ℕ) → j < 8 → n < 2 ^ j → n < 65536
number_small j n h l = let k = pow-lt {i = j} {j = 16} (omega arith) in omega (arith, k)

four : (q : Square) (k n₀ n₁ n₂ n₃ : ℕ) → k + 4 ≤ length q → n₀ ≡ of_bits (get_or q k []) → n₁ ≡ of_bits (get_or q (suc k) []) → n₂ ≡ of_bits (get_or q (suc (suc k)) []) → n₃ ≡ of_bits (get_or q (suc (suc (suc k))) [])
    → n₀ + 256 * (n₁ + 256 * (n₂ + 256 * n₃)) ≡ of_rows (take 4 (drop k q))
unfolding of_rows
four q k n₀ n₁ n₂ n₃ h p₀ p₁ p₂ p₃ = rw (p₀, p₁, p₂, p₃, drop-cons q k [] (omega arith), drop-cons q (suc k) [] (omega arith), drop-cons q (suc (suc k)) [] (omega arith), drop-cons q (suc (suc (suc k))) [] (omega arith)) (omega arith)

pub rows_packed : (q : Square) (k n₀ n₁ n₂ n₃ : ℕ) → length q ≡ 8 → k ≤ 4 → n₀ ≡ of_bits (get_or q k []) → n₁ ≡ of_bits (get_or q (k + 1) []) → n₂ ≡ of_bits (get_or q (k + 2) []) → n₃ ≡ of_bits (get_or q (k + 3) [])
    → n₀ + 256 * (n₁ + 256 * (n₂ + 256 * n₃)) ≡ of_rows (take 4 (drop k q))
rows_packed q k n₀ n₁ n₂ n₃ l h p₀ p₁ p₂ p₃ =
    let a : k + 1 ≡ suc k = omega arith in
    let b : k + 2 ≡ suc (suc k) = omega arith in
    let d : k + 3 ≡ suc (suc (suc k)) = omega arith in
    four q k n₀ n₁ n₂ n₃ (omega (arith, l)) p₀ (rw a at p₁) (rw b at p₂) (rw d at p₃)

pub both_packed : (q : Square) (a b : ℕ) → a ≡ of_rows (take 4 (drop 0 q)) → b ≡ of_rows (take 4 (drop 4 q)) → (a ∷ b ∷ []) ≡ (low_of q ∷ high_of q ∷ [])
unfolding low_of high_of
both_packed q a b e f = rw (e, f)

-- one law for each direction
module _ (d : Direction) (i j : ℕ) (q r : Square) where
  pub direct_isolate : d ≡ Isolate → r ≡ paired q i j false false → r ≡ directed d i j q
  unfolding directed
  direct_isolate e p = rw e p

  pub direct_oneway : d ≡ Oneway → r ≡ paired q i j true false → r ≡ directed d i j q
  unfolding directed
  direct_oneway e p = rw e p

  pub direct_bothway : d ≡ Bothway → r ≡ paired q i j true true → r ≡ directed d i j q
  unfolding directed
  direct_bothway e p = rw e p

-- The map of 64 places: the code's answers are those of a walk over its digits, and one digit of a word set or cleared.
use Prim.Native.Nat.{ℕ, zero, suc, ◌+◌, ◌-◌, ◌*◌, ◌/◌, ◌%◌, ◌^◌, ◌<◌, ◌≤◌}
use mathlib.Core.Path.{◌≡◌, refl, sym, ap, ◌∙◌}
use mathlib.Core.Bool.{Bool, true, false}
use mathlib.Core.List.{List, ◌++◌}
use native.Mathlib.Omega.{arith}
use native.Mathlib.Nat.{pow-succ', div-one, div-div-eq-div-mul, mod-eq_of_lt}
use lib.Pow.{pow-lt}
use lib.ListN.{get_or, set}
use lib.Dec.{ltb, eqb}
use lib.Count.{ones, ones_step, count_trailing_zeros, under}
use borrow.Author.Tests.{lt-ltb, le-ltb, ltb-true, ltb-false}
use Rattle.base.specs.Pick.{pick}
use Rattle.base.specs.Lists.{lowest_absent}
use Rattle.megaco.specs.Map.{digits, of_digits, with_digit, in_use}
use Rattle.megaco.specs.Table.{line_terminations, regions, start_of, place, fitted, used, cell, address, write, store, places, free_ephemeral, used_ephemerals}
use Rattle.megaco.proofs.Places.{digits_back, digits_joined}

-- ---- the lowest absent number
suc_test : (t k : ℕ) → ltb (suc t) (suc k) ≡ ltb t k
suc_test t k = go (ltb t k) refl
  where
    go : (x : Bool) → ltb t k ≡ x → ltb (suc t) (suc k) ≡ x
    go true e = let h = ltb-true t k e in lt-ltb (suc t) (suc k) (omega (arith, h))
    go false e = let h = ltb-false t k e in le-ltb (suc t) (suc k) (omega (arith, h))

free_step : (k n d t r : ℕ) → d < 2 → r ≡ pick (ltb t k) (n + 1 + t) 0 → pick (eqb d 0) n r ≡ pick (ltb (under (1 - d) t) (suc k)) (n + under (1 - d) t) 0
unfolding pick
free_step k n zero t r h e = rw (lt-ltb 0 (suc k) (omega arith)) (omega arith)
free_step k n (suc zero) t r h e = let y : n + 1 + t ≡ n + suc t = omega arith in rw (suc_test t k, ← y) e
free_step k n (suc (suc d)) t r h e = absurd (omega arith)

free : (k n m : ℕ) → m < 2 ^ k → lowest_absent n (digits k m) ≡ pick (ltb (count_trailing_zeros k (2 ^ k - 1 - m)) k) (n + count_trailing_zeros k (2 ^ k - 1 - m)) 0
unfolding lowest_absent digits count_trailing_zeros
free zero n m h = unfold pick in refl
free (suc k) n m h =
    let p : 2 ^ suc k ≡ 2 * 2 ^ k = pow-succ' 2 k in
    let e : (2 ^ suc k - 1 - m) / 2 ≡ 2 ^ k - 1 - m / 2 = omega arith in
    let f : (2 ^ suc k - 1 - m) % 2 ≡ 1 - m % 2 = omega arith in
    rw (e, f) (free_step k n (m % 2) (count_trailing_zeros k (2 ^ k - 1 - m / 2)) (lowest_absent (n + 1) (digits k (m / 2))) (omega arith) (free k (n + 1) (m / 2) (omega arith)))

pub found : (m t : ℕ) → m < 2 ^ 64 → t ≡ count_trailing_zeros 64 (2 ^ 64 - 1 - m) → t < 64 → t + 1 ≡ lowest_absent 1 (digits 64 m)
unfolding pick
found m t h e l = sym (free 64 1 m h ∙ rw (← e, lt-ltb t 64 l) (omega arith))

pub full : (m t : ℕ) → m < 2 ^ 64 → t ≡ count_trailing_zeros 64 (2 ^ 64 - 1 - m) → 64 ≤ t → 0 ≡ lowest_absent 1 (digits 64 m)
unfolding pick
full m t h e l = sym (free 64 1 m h ∙ rw (← e, le-ltb t 64 l))

-- ---- the number in use
digit : (d : ℕ) → d < 2 → pick (eqb d 0) 0 1 ≡ d
unfolding pick
digit zero h = refl
digit (suc zero) h = refl
digit (suc (suc d)) h = absurd (omega arith)

counts : (k m : ℕ) → m < 2 ^ k → ones m ≡ in_use (digits k m)
unfolding in_use digits ones
counts zero zero h = refl
counts zero (suc m) h = absurd (omega arith)
counts (suc k) m h = let p : 2 ^ suc k ≡ 2 * 2 ^ k = pow-succ' 2 k in ones_step m ∙ rw (digit (m % 2) (omega arith), counts k (m / 2) (omega arith))

pub all_used : (m : ℕ) → m < 2 ^ 64 → ones m ≡ in_use (digits 64 m)
all_used m h = counts 64 m h

-- ---- the two halves
pub halves : (l h r : ℕ) → l < 2 ^ 32 → r ≡ l + h * 4294967296 → digits 64 r ≡ digits 32 l ++ digits 32 h
halves l h r b e = rw e (digits_joined 32 32 l h b)

pub free_by : (t : List ℕ) (m r : ℕ) → digits 64 m ≡ places t → r ≡ lowest_absent 1 (digits 64 m) → r ≡ free_ephemeral t
unfolding free_ephemeral
free_by t m r e h = h ∙ ap (lowest_absent 1) e

pub used_by : (t : List ℕ) (m r : ℕ) → digits 64 m ≡ places t → r ≡ in_use (digits 64 m) → r ≡ used_ephemerals t
unfolding used_ephemerals
used_by t m r e h = h ∙ ap in_use e

-- ---- one place of a word marked or cleared
half : (b w : ℕ) → w / 2 ^ suc b ≡ w / 2 / 2 ^ b
half b w = rw (pow-succ' 2 b) (sym (div-div-eq-div-mul w 2 (2 ^ b)))

first : (w d : ℕ) → w / 2 ^ 0 % 2 ≡ d → w % 2 ≡ d
first w d e = rw div-one at e

keep : (k b w d : ℕ) → w < 2 ^ k → b < k → w / 2 ^ b % 2 ≡ d → w ≡ of_digits (set (digits k w) b d)
unfolding digits of_digits
keep zero b w d h l e = absurd (omega arith)
keep (suc k) zero w d h l e =
    let p : 2 ^ suc k ≡ 2 * 2 ^ k = pow-succ' 2 k in
    let f = first w d e in
    let q = digits_back k (w / 2) (omega arith) in
    omega (arith, f, q)
keep (suc k) (suc b) w d h l e =
    let p : 2 ^ suc k ≡ 2 * 2 ^ k = pow-succ' 2 k in
    let q = keep k b (w / 2) d (omega arith) (omega arith) (rw half at e) in
    omega (arith, q)

on : (k b w : ℕ) → w < 2 ^ k → b < k → w / 2 ^ b % 2 ≡ 0 → (w + 2 ^ b < 2 ^ k) × (w + 2 ^ b ≡ of_digits (set (digits k w) b 1))
unfolding digits of_digits
on zero b w h l e = absurd (omega arith)
on (suc k) zero w h l e =
    let p : 2 ^ suc k ≡ 2 * 2 ^ k = pow-succ' 2 k in
    let f = first w 0 e in
    let q = digits_back k (w / 2) (omega arith) in
    (omega (arith, f), omega (arith, f, q))
on (suc k) (suc b) w h l e =
    let p : 2 ^ suc k ≡ 2 * 2 ^ k = pow-succ' 2 k in
    let r : 2 ^ suc b ≡ 2 * 2 ^ b = pow-succ' 2 b in
    let q = on k b (w / 2) (omega arith) (omega arith) (rw half at e) in
    (omega (arith, q.0), omega (arith, q.1))

off : (k b w : ℕ) → w < 2 ^ k → b < k → w / 2 ^ b % 2 ≡ 1 → w ≡ 2 ^ b + of_digits (set (digits k w) b 0)
unfolding digits of_digits
off zero b w h l e = absurd (omega arith)
off (suc k) zero w h l e =
    let p : 2 ^ suc k ≡ 2 * 2 ^ k = pow-succ' 2 k in
    let f = first w 1 e in
    let q = digits_back k (w / 2) (omega arith) in
    omega (arith, f, q)
off (suc k) (suc b) w h l e =
    let p : 2 ^ suc k ≡ 2 * 2 ^ k = pow-succ' 2 k in
    let r : 2 ^ suc b ≡ 2 * 2 ^ b = pow-succ' 2 b in
    let q = off k b (w / 2) (omega arith) (omega arith) (rw half at e) in
    omega (arith, q)

shifted : (b : ℕ) → b < 32 → 1 * 2 ^ b % 2 ^ 32 ≡ 2 ^ b
shifted b h = let l : 1 * 2 ^ b < 2 ^ 32 = let k = pow-lt {i = b} {j = 32} h in omega arith in mod-eq_of_lt l ∙ omega arith

-- the four ways through the code, and the two bounds
module _ (w b : ℕ) (on? : Bool) (h : w < 2 ^ 32) (l : b < 32) where
  pub still_on : w / 2 ^ b % 2 ≡ 1 → on? ≡ true → w ≡ with_digit b (pick on? 1 0) w
  unfolding with_digit pick
  still_on e t = rw t (keep 32 b w 1 h l e)

  pub still_off : (w / 2 ^ b % 2 ≡ 1 → ⊥) → on? ≡ false → w ≡ with_digit b (pick on? 1 0) w
  unfolding with_digit pick
  still_off e t = rw t (keep 32 b w 0 h l (omega (arith, e)))

  pub within : w / 2 ^ b % 2 ≡ 1 → 1 * 2 ^ b % 2 ^ 32 ≤ w
  within e = rw (shifted b l) (let q = off 32 b w h l e in omega (arith, q))

  pub cleared : (r : ℕ) → w / 2 ^ b % 2 ≡ 1 → on? ≡ false → r ≡ w - 1 * 2 ^ b % 2 ^ 32 → r ≡ with_digit b (pick on? 1 0) w
  unfolding with_digit pick
  cleared r e t p = p ∙ rw (t, shifted b l) (let q = off 32 b w h l e in omega (arith, q))

  pub fits : (w / 2 ^ b % 2 ≡ 1 → ⊥) → w + 1 * 2 ^ b % 2 ^ 32 < 2 ^ 32
  fits e = rw (shifted b l) (on 32 b w h l (omega (arith, e))).0

  pub put : (r : ℕ) → (w / 2 ^ b % 2 ≡ 1 → ⊥) → on? ≡ true → r ≡ w + 1 * 2 ^ b % 2 ^ 32 → r ≡ with_digit b (pick on? 1 0) w
  unfolding with_digit pick
  put r e t p = p ∙ rw (t, shifted b l) (on 32 b w h l (omega (arith, e))).1

-- 0 and 1 are digits
pub one_digit_lem : (on? : Bool) → pick on? 1 0 % 2 ≡ pick on? 1 0
unfolding pick
one_digit_lem true = refl
one_digit_lem false = refl

-- the word of a place, with the place set
pub put_digit : (t u : List ℕ) (i k a w x : ℕ) (on? : Bool) → k ≡ i - line_terminations (fitted t) → a ≡ place 3 (regions (fitted t)) (k / 32)
    → w ≡ get_or t a 0 → x ≡ with_digit (k % 32) (pick on? 1 0) w → u ≡ set t a x → u ≡ store (write (cell (used i)) (pick on? 1 0)) t
put_digit t u i k a w x on? p q e f g =
    let y : x ≡ with_digit (k % 32) (pick on? 1 0 % 2) (get_or t a 0) = f ∙ rw (one_digit_lem on?, e) in
    let z : a ≡ address (fitted t) (cell (used i)) = q ∙ rw p in
    g ∙ ap (set t a) y ∙ (λ j. set t (z j) (with_digit (p j % 32) (pick on? 1 0 % 2) (get_or t (z j) 0)))

pub map_by : (t : List ℕ) (a l h r : ℕ) → a ≡ start_of (fitted t) 3 → l ≡ get_or t a 0 → h ≡ get_or t (a + 1) 0
    → digits 64 r ≡ digits 32 l ++ digits 32 h → digits 64 r ≡ places t
unfolding places
map_by t a l h r e p q d = d ∙ rw (p, q, e)

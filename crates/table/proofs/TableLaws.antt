-- The laws of the table's words, in the form in which `search` uses them.
use Prim.Native.Nat.{ℕ, zero, suc, ◌+◌, ◌-◌, ◌*◌, ◌/◌, ◌%◌, ◌<◌, ◌≤◌, min}
use mathlib.Core.Path.{◌≡◌, refl, sym, ap, ◌∙◌}
use mathlib.Core.List.{List, [], ◌∷◌}
use mathlib.Core.Bool.{Bool, true, false, not, cond}
use native.Mathlib.Numerals.{add-one}
use native.Mathlib.Nat.{zero-add, suc-add, sub-zero}
use native.Mathlib.Omega.{arith}
use lib.ListN.{length, get_or, set, take, drop, get_or-eq_default}
use lib.Seq.{set_out, take-nil, take_all}
use lib.Dec.{leb, eqb}
use Rattle.std.proofs.Common.{Option, nat_lt}
use mir.Syntax.{w32}
use mir.Val.{Fits, bool_byte}
use Rattle.std.specs.List.{sum_by, position, position_or_len}
use Rattle.std.specs.Option.{MatchOption}
use Rattle.std.proofs.lemmas.List.Sums.{sum_by-cons}
use borrow.Author.Tests.{leb-true, leb-false}
use Rattle.base.specs.Pick.{pick}
use Rattle.base.specs.Lists.{count, lowest_absent}
use Rattle.megaco.specs.Table.{regions, total, start_of, place, words, prop, flow, speech, cell, low_flow, high_flow, speech_word, address, get, write, store, apply, line_terminations, terminations, fitted, record_words, known, members, place_in, free_context}
use Rattle.megaco.specs.Attempt.{side_writes}
use Rattle.megaco.proofs.Sizes.{fitted_same}
use Rattle.megaco.proofs.Regions.{place_is, context_region, record_region, members_first, place_first}

-- past the end stands 0, and nothing is stored there
pub read_past : (t : List ℕ) (k : ℕ) → length t ≤ k → 0 ≡ get_or t k 0
read_past t k h = sym (get_or-eq_default t 0 h)

pub read_beyond : (t : List ℕ) (i : ℕ) → length t ≤ i → 0 ≡ get t (cell (prop i))
read_beyond t i h = read_past t (address (fitted t) (cell (prop i))) (omega (arith, place_is 1 (regions (fitted t)) i))

pub store_past : (t : List ℕ) (k v : ℕ) → length t ≤ k → t ≡ set t k v
store_past t k v h = sym (set_out t k v h)

pub store_beyond : (t : List ℕ) (i v : ℕ) → length t ≤ i → t ≡ store (write (cell (prop i)) v) t
store_beyond t i v h = store_past t (address (fitted t) (cell (prop i))) v (omega (arith, place_is 1 (regions (fitted t)) i))

-- behind the last region the table ends
pub end_start : (n k : ℕ) → (((((Unit {0} × (k ≡ 0 → ⊥)) × (k ≡ 1 → ⊥)) × (k ≡ 2 → ⊥)) × (k ≡ 3 → ⊥)) × (k ≡ 4 → ⊥)) × (k ≡ 5 → ⊥) → words n ≡ start_of n k
end_start n k o =
    let h : length (regions n) ≤ k = omega (arith, o.1, o.0.1, o.0.0.1, o.0.0.0.1, o.0.0.0.0.1, o.0.0.0.0.0.1) in
    ap total (sym (take_all k (regions n) h))

pub start_by : (x n k r : ℕ) → x ≡ n → r ≡ start_of x k → r ≡ start_of n k
start_by x n k r e h = h ∙ rw e

-- a region's word stands behind its start
pub word_stands : (n k i a : ℕ) → a ≡ start_of n k → a + i ≡ place k (regions n) i
word_stands n k i a e = ap (λ (x : ℕ). x + i) e ∙ place_is k (regions n) i

-- the next word of a region
next_word : (k : ℕ) (rs : List ℕ) (i : ℕ) → place k rs i + 1 ≡ place k rs (i + 1)
next_word k rs i = omega (arith, place_is k rs i, place_is k rs (i + 1))

-- the second of a context's two words of flows
module _ (t : List ℕ) (c k : ℕ) (e : k ≡ address (fitted t) (cell (flow (low_flow c)))) where
  next_flow : k + 1 ≡ address (fitted t) (cell (flow (high_flow c)))
  next_flow = ap (λ (m : ℕ). m + 1) e ∙ next_word 4 (regions (fitted t)) (low_flow c)

  pub high_read : (r : ℕ) → r ≡ get_or t (k + 1) 0 → r ≡ get t (cell (flow (high_flow c)))
  high_read r p = p ∙ ap (λ (m : ℕ). get_or t m 0) next_flow

  pub high_put : (u : List ℕ) (v : ℕ) → u ≡ set t (k + 1) v → u ≡ store (write (cell (flow (high_flow c))) v) t
  high_put u v p = p ∙ ap (λ (m : ℕ). set t m v) next_flow

-- ---- where speech goes

-- what stands behind ephemeral 127 stands behind the table's end
table_end : (t : List ℕ) (w : ℕ) → 1016 ≤ w → length t ≤ place 5 (regions (fitted t)) w
unfolding fitted
table_end t w h = omega (arith, h)

-- word j of a side, found by the first
word_put : (t u : List ℕ) (i side j k v : ℕ) → side < 2 → j < 4 → k ≡ place 5 (regions (fitted t)) (8 * min (i - line_terminations (fitted t)) 127 + 4 * side)
    → u ≡ set t (k + j) v → u ≡ store (write (cell (speech (speech_word i side j))) v) t
word_put t u i side j k v s h e p = p ∙ by (leb (i - L) 127) refl
  where
    L : ℕ
    L = line_terminations (fitted t)

    w : ℕ
    w = 8 * (speech_word i side j / 8 - L) + speech_word i side j % 8

    by : (b : Bool) → leb (i - L) 127 ≡ b → set t (k + j) v ≡ set t (place 5 (regions (fitted t)) w) v
    by true q =
        let n : k + j ≡ place 5 (regions (fitted t)) w = omega (arith, e, leb-true (i - L) 127 q) in
        ap (λ (x : ℕ). set t x v) n
    by false q =
        let o : 127 < i - L = leb-false (i - L) 127 q in
        set_out t (k + j) v (omega (arith, e, o, table_end t (8 * 127 + 4 * side + j) (omega arith))) ∙ sym (set_out t (place 5 (regions (fitted t)) w) v (table_end t w (omega (arith, o))))

-- the four words in turn
module _ (t : List ℕ) (i side : ℕ) (words : List ℕ) where
  unfoldable pub written : ℕ → List ℕ
  written j = apply (take j (side_writes i side (get_or words 0 0) (get_or words 1 0) (get_or words 2 0) (get_or words 3 0) [])) t

  pub side_start : t ≡ written 0
  unfolding written apply
  side_start = refl

  pub side_step : (t₁ u : List ℕ) (j k : ℕ) → side < 2 → j < 4 → k ≡ place 5 (regions (fitted t)) (8 * min (i - line_terminations (fitted t)) 127 + 4 * side)
      → length t₁ ≡ length t → t₁ ≡ written j → u ≡ set t₁ (k + j) (get_or words j 0) → u ≡ written (j + 1)
  unfolding written side_writes apply
  side_step t₁ u j k s h e l f p = rw add-one (by j h f (word_put t₁ u i side j k (get_or words j 0) s h (rw (fitted_same t₁ t l) e) p))
    where
      by : (j : ℕ) → j < 4 → t₁ ≡ written j → u ≡ store (write (cell (speech (speech_word i side j))) (get_or words j 0)) t₁ → u ≡ written (suc j)
      by zero h f q = q ∙ rw f
      by (suc zero) h f q = q ∙ rw f
      by (suc (suc zero)) h f q = q ∙ rw f
      by (suc (suc (suc zero))) h f q = q ∙ rw f
      by (suc (suc (suc (suc j)))) h f q = absurd (omega arith)

  pub side_end : (u : List ℕ) (j : ℕ) → 4 ≤ j → j ≤ 4 → u ≡ written j → u ≡ apply (side_writes i side (get_or words 0 0) (get_or words 1 0) (get_or words 2 0) (get_or words 3 0) []) t
  unfolding written side_writes
  side_end u j h k e = let m : j ≡ 4 = omega arith in rw m at e

-- a test as a number
bit_pick : (b : Bool) → bool_byte b ≡ pick b 1 0
unfolding pick
bit_pick true = refl
bit_pick false = refl

-- a count is a sum of tests
count_sum : (c : ℕ) (l : List ℕ) → sum_by (λ w. bool_byte (eqb w c)) l ≡ count c l
unfolding count
count_sum c [] = refl
count_sum c (x ∷ l) = sum_by-cons (λ w. bool_byte (eqb w c)) x l ∙ rw (bit_pick, count_sum c l)

pub count_is : (c : ℕ) (l : List ℕ) (r : ℕ) → r ≡ sum_by (λ w. bool_byte (eqb w c)) l → r ≡ count c l
count_is c l r e = e ∙ count_sum c l

-- the number of the first 0 is one more than its place
absent_place : (n : ℕ) (l : List ℕ) → lowest_absent n l ≡ cond (nat_lt (position_or_len (λ w. eqb w 0) l) (length l)) (n + position_or_len (λ w. eqb w 0) l) 0
unfolding lowest_absent pick
absent_place n [] = refl
absent_place n (x ∷ l) = by (eqb x 0) (absent_place (n + 1) l)
  where
    p : ℕ
    p = position_or_len (λ w. eqb w 0) l

    by : (t : Bool) → lowest_absent (n + 1) l ≡ cond (nat_lt p (length l)) (n + 1 + p) 0
        → pick t n (lowest_absent (n + 1) l) ≡ cond (nat_lt (cond (not t) (1 + p) 0) (suc (length l))) (n + cond (not t) (1 + p) 0) 0
    by true e = grind arith
    by false e = grind arith

pub absent_is : (l : List ℕ) (o : Option ℕ) (r : ℕ) → o ≡ position (λ w. eqb w 0) l → MatchOption o (r ≡ 0) (λ i. r ≡ i + 1) → r ≡ lowest_absent 1 l
absent_is l o r e h = grind (arith, absent_place 1 l)

pick_at_most : (b : Bool) (x y m : ℕ) → x ≤ m → y ≤ m → pick b x y ≤ m
unfolding pick
pick_at_most true x y m h k = h
pick_at_most false x y m h k = k

pub absent_at_most : (n : ℕ) (l : List ℕ) → lowest_absent n l ≤ n + length l
unfolding lowest_absent
absent_at_most n [] = omega arith
absent_at_most n (x ∷ l) =
    let r : lowest_absent (n + 1) l ≤ n + suc (length l) = omega (arith, absent_at_most (n + 1) l) in
    pick_at_most (eqb x 0) n (lowest_absent (n + 1) l) (n + suc (length l)) (omega arith) r

-- ---- parts of the table

-- a part that the code takes of a table with n terminations
pub members_part : (t : List ℕ) (c n r : ℕ) → n ≡ terminations (fitted t) → r ≡ count c (take (n - 0) (drop 0 t)) → r ≡ members c t
unfolding members
members_part t c n r e h = h ∙ ap (count c) ((context_region t).cut 0 n refl e)

count_part : (c n m : ℕ) (l : List ℕ) → count c (take (n + m) l) ≡ count c (take n l) + count c (take m (drop n l))
unfolding count
count_part c zero m l = rw (zero-add, zero-add)
count_part c (suc n) m [] = rw (take-nil, take-nil)
count_part c (suc n) m (x ∷ l) = rw (suc-add, count_part c n m l) (omega arith)

-- two parts that the code takes, before number i and from it on
module _ (t : List ℕ) (c i n k a : ℕ) (e : n ≡ terminations (fitted t)) (f : k ≡ min i n) (p : a ≡ count c (take (k - 0) (drop 0 t))) where
  pub place_part : known c ≡ true → a ≡ place_in c i t
  place_part h = p ∙ rw (sub-zero, f, e) (sym (place_first t c i h))

  pub both_parts : (b : ℕ) → b ≡ count c (take (n - k) (drop k t)) → a + b ≡ members c t
  both_parts b q =
      let s : k + (n - k) ≡ terminations (fitted t) = omega arith in
      rw (p, sub-zero, q, members_first t c) (sym (count_part c k (n - k) t) ∙ rw s)

pub known_yes : (x : Bool) (c : ℕ) → x ≡ known c → x ≡ true → known c ≡ true
known_yes x c e h = sym e ∙ h

pub place_none : (t : List ℕ) (c i : ℕ) (x : Bool) → x ≡ known c → x ≡ false → 0 ≡ place_in c i t
unfolding place_in pick
place_none t c i x e h = rw (← e, h)

-- the records
module _ (t : List ℕ) (a e r : ℕ) (p : a ≡ start_of (fitted t) 2) (q : e ≡ start_of (fitted t) 3) (h : r ≡ lowest_absent 1 (take (e - a) (drop a t))) where
  pub records_part : r ≡ free_context t
  unfolding free_context
  records_part = h ∙ ap (lowest_absent 1) ((record_region t).cut a e p q)

  pub records_fit_lem : Fits w32 r
  unfolding free_context
  records_fit_lem = record { fits = omega (arith, records_part, absent_at_most 1 (record_words t), (record_region t).few) }

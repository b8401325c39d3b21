-- Laws of the leaf readers, in the form in which `search` uses them.
use Rattle.std.specs.Prelude.{Some, None}
use mir.Val.{Fits}
use mir.Syntax.{w64}
use Prim.Native.Nat.{ℕ, ◌^◌, ◌+◌, ◌<◌, ◌≤◌}
use mathlib.Core.Path.{◌≡◌, refl, sym, ◌∙◌}
use mathlib.Core.List.{List}
use mathlib.Core.Bool.{Bool, true, false, not, ◌&&◌, ◌||◌, or-false}
use native.Mathlib.Numerals.{add-one}
use native.Mathlib.Omega.{arith}
use native.Mathlib.Nat.{lt_of_not-le}
use lib.ListN.{length, get_or, drop, drop_of_length-le, get_or-eq_default}
use lib.Seq.{drop-cons}
use lib.Dec.{eqb, leb, lit<}
use borrow.Author.Tests.{eqb-true, leb-true}
use Rattle.base.specs.Pick.{pick, picks}
use Rattle.base.specs.Lists.{is_at}
use Rattle.protocol.specs.Types.{Parsed, Class}
use Rattle.megaco.specs.Bytes.{semicolon, is_letter, is_white, is_line_end, is_comment}
use Rattle.megaco.specs.White.{after, goes_on, inside_after, stop_at, white_from, white_at}
use Rattle.megaco.specs.Tokens.{letter_at, row_from, row_at}
use Rattle.text.specs.Classes.{low_of, high_of, OfMaps}

-- ---- single bytes

-- a byte that is not 0 stands within the slice
pub within : (s : List ℕ) (i b : ℕ) (x : Bool) → x ≡ is_at s i b → x ≡ true → 0 < b → i < length s
unfolding is_at
within s i b x e h p = lt_of_not-le (λ (le : length s ≤ i). let z : 0 ≡ b = sym (get_or-eq_default s 0 le) ∙ eqb-true (get_or s i 0) b (sym e ∙ h) in omega arith)

-- so the place after it is a number of 64 bits
pub next_fits : (s : List ℕ) (i b : ℕ) (x : Bool) → x ≡ is_at s i b → x ≡ true → 0 < b → length s < 2 ^ 64 → Fits w64 (i + 1)
next_fits s i b x e h p l = let w : i < length s = within s i b x e h p in record { fits = omega arith }

pub beyond : (s : List ℕ) (i b : ℕ) → length s ≤ i → eqb 0 b ≡ is_at s i b
unfolding is_at
beyond s i b h = rw (get_or-eq_default s 0 h)

-- past the end stands no letter
pub no_letter : (s : List ℕ) (i : ℕ) → length s ≤ i → false ≡ letter_at s i
unfolding letter_at is_letter
no_letter s i h = rw (get_or-eq_default s 0 h)

-- a small letter is at least 0x20
pub small : (b : ℕ) → (leb 0x61 b && leb b 0x7a) ≡ true → 0x20 ≤ b
small b e = by (leb 0x61 b) refl e
  where
    by : (t : Bool) → leb 0x61 b ≡ t → (t && leb b 0x7a) ≡ true → 0x20 ≤ b
    by true l f = let m : 0x61 ≤ b = leb-true 0x61 b l in omega arith
    by false l f = let z : ◌≡◌ {A = ℕ} 0 1 = cc in absurd (omega arith)

-- ---- the arms of a match on what a reader found

pub after_next : (x : Parsed) (f : ℕ → Parsed) (y r : Parsed) (p : ℕ) → y ≡ x → y ≡ Some p → r ≡ f p → r ≡ after x f
unfolding after
after_next x f y r p e n h = rw (← e, n) h

pub after_fault : (x : Parsed) (f : ℕ → Parsed) (y : Parsed) → y ≡ x → y ≡ None → None ≡ after x f
unfolding after
after_fault x f y e n = rw (← e, n)

pub ruleset reads = (lit<, next_fits, picks, after_next, after_fault)

-- ---- rows: the definition from the start is the definition from here

pub record RowHere (low high : ℕ) (s : List ℕ) (at i : ℕ) : Type 0 where
  pub is : (k : Class) → low ≡ low_of k → high ≡ high_of k → row_at k s at ≡ row_from k (drop i s) i

pub row_starts : (low high : ℕ) (s : List ℕ) (at : ℕ) → RowHere low high s at at
unfolding row_at
row_starts low high s at = record { is = λ k l h. refl }

module _ (low high : ℕ) (s : List ℕ) (at i : ℕ) (inv : RowHere low high s at i) where
  pub row_on : (x : Bool) → i < length s → OfMaps (get_or s i 0) low high x → x ≡ true → RowHere low high s at (i + 1)
  unfolding row_from pick
  row_on x n g t = record { is = λ k l h. inv.is k l h ∙ rw (drop-cons s i 0, ← g.is k l h, t, add-one) }

  module _ (k : Class) (l : low ≡ low_of k) (h : high ≡ high_of k) where
    pub row_stop : (x : Bool) → i < length s → OfMaps (get_or s i 0) low high x → x ≡ false → i ≡ row_at k s at
    unfolding row_from pick
    row_stop x n g t = sym (inv.is k l h ∙ rw (drop-cons s i 0, ← g.is k l h, t))

    pub row_end : length s ≤ i → i ≡ row_at k s at
    unfolding row_from
    row_end n = sym (inv.is k l h ∙ rw (drop_of_length-le s n))

-- ---- white space, likewise

module _ (m : Bool) (b : ℕ) (e : m ≡ true) where
  pub goes_inside : (x y : Bool) → x ≡ is_comment b → y ≡ is_line_end b → (x || y) ≡ goes_on m b
  unfolding goes_on
  goes_inside x y f g = rw (e, f, g) (sym (or-false (is_comment b || is_line_end b)))

  pub stays_inside : (x : Bool) → x ≡ is_line_end b → not x ≡ inside_after m b
  unfolding inside_after
  stays_inside x f = rw (e, f) (sym (or-false (not (is_line_end b))))

module _ (m : Bool) (b : ℕ) (e : m ≡ false) where
  pub goes_outside : (x : Bool) → x ≡ is_white b → (x || eqb b semicolon) ≡ goes_on m b
  unfolding goes_on
  goes_outside x f = rw (e, f)

  pub begins : eqb b semicolon ≡ inside_after m b
  unfolding inside_after
  begins = rw e

module _ (s : List ℕ) (i : ℕ) (m : Bool) (q : Parsed) (inv : q ≡ white_from (drop i s) i m) where
  pub white_on : (x m' : Bool) → i < length s → x ≡ goes_on m (get_or s i 0) → x ≡ true → m' ≡ inside_after m (get_or s i 0) → q ≡ white_from (drop (i + 1) s) (i + 1) m'
  unfolding white_from pick
  white_on x m' h g t n = inv ∙ rw (drop-cons s i 0, ← g, t, n, add-one)

  pub white_stop : (x : Bool) (r : Parsed) → i < length s → x ≡ goes_on m (get_or s i 0) → x ≡ false → r ≡ stop_at m i → r ≡ q
  unfolding white_from pick
  white_stop x r h g t n = n ∙ sym (inv ∙ rw (drop-cons s i 0, ← g, t))

  pub white_end : (r : Parsed) → length s ≤ i → r ≡ stop_at m i → r ≡ q
  unfolding white_from
  white_end r h n = n ∙ sym (inv ∙ rw (drop_of_length-le s h))

-- no white space stands here
pub no_white : (s : List ℕ) (i : ℕ) (x : Bool) → i < length s → x ≡ goes_on false (get_or s i 0) → x ≡ false → Some i ≡ white_at s i
unfolding white_at stop_at pick
no_white s i x h g t = white_stop s i false (white_at s i) refl x (Some i) h g t refl

pub white_beyond : (s : List ℕ) (i : ℕ) → length s ≤ i → Some i ≡ white_at s i
unfolding white_at stop_at pick
white_beyond s i h = white_end s i false (white_at s i) refl (Some i) h refl

-- Sets in brackets: digitLetter and digitMapRange of the grammar are read, and what is read is of the grammar.
use Prim.Native.Nat.{ℕ, zero, suc, ◌+◌, ◌-◌, ◌^◌, ◌≤◌}
use mathlib.Core.Path.{◌≡◌, refl, sym, ap, ◌∙◌}
use mathlib.Core.Logic.{◌⊎◌, inl, inr}
use mathlib.Core.Bool.{Bool, true, false, not}
use mathlib.Core.List.{List, [], ◌∷◌, ◌++◌, append_assoc}
use lib.ListN.{length, drop, length-append}
use lib.Dec.{ltb, eqb}
use lib.Bits.{bit_or}
use borrow.Author.Tests.{le-leb, ne_eqb}
use native.Mathlib.Omega.{arith}
use native.Mathlib.Nat.{add-zero, zero-add, zero-div}
use Rattle.base.specs.Pick.{pick}
use Rattle.base.specs.Lists.{is_at, every, has}
use Rattle.megaco.specs.Bytes.{dash, is_digit, is_white, capital}
use Rattle.megaco.specs.White.{goes_on, white_at}
use Rattle.grammar.specs.Grammar.{LWSP}
use Rattle.grammar.proofs.Classes.{or_right}
use Rattle.grammar.proofs.Places.{head, at_head, behind, is_at_head, is_at_cons, given}
use Rattle.grammar.proofs.WhiteLaws.{Solid, white_complete, white_sound}
use Rattle.grammar.proofs.FollowLaws.{ends}
use Rattle.digits.specs.Symbols.{letter_of, symbol_of, symbol_at, takes}
use Rattle.digits.specs.DigitMap.{left_bracket, right_bracket, taken, span_at, letters_f, close_at, range_at, bracket_at, SelectorRead, selector, absent, malformed}
use Rattle.digits.proofs.SetLaws.{takes_span, takes_union}
use Rattle.digit_grammar.specs.DigitGrammar.{basic_digit, basic_letter, range, Span, digit_range, letter_range, one_symbol, digit_letter, no_span, more_span, digit_map_range, set_of}
use Rattle.digit_grammar.proofs.SymbolLaws.{digit_is, letter_is, symbol_is, begins, begins_symbol, begins_solid, begins_no_dash, white_first}
use Rattle.digit_grammar.proofs.SpanLaws.{Selects, Part, same_takes, malformed_takes, step, span_reads, span_sound, selects_spaced, selects_taken, spaced_takes, taken_takes, pick_absent, pick_malformed}

-- ---- sets: digitLetter

span_begins : {b : List ℕ} {set : ℕ} (rest : List ℕ) → Span b set → begins (head (b ++ rest)) ≡ true
span_begins rest (digit_range (range x y l)) = begins_symbol (basic_digit x)
span_begins rest (letter_range (range x y l)) = begins_symbol (basic_letter x)
span_begins rest (one_symbol x) = begins_symbol x

span_long : {b : List ℕ} {set : ℕ} → Span b set → 1 ≤ length b
span_long (digit_range (range x y l)) = omega arith
span_long (letter_range (range x y l)) = omega arith
span_long (one_symbol x) = omega arith

letters_long : {c : List ℕ} {set : ℕ} → digit_letter c set → (c ≡ []) ⊎ (1 ≤ length c)
letters_long no_span = inl refl
letters_long (more_span {a} {b} x y) = inr (rw (length-append a b) (omega (arith, span_long y)))

letters_begin : {c : List ℕ} {set : ℕ} (rest : List ℕ) → digit_letter c set → 1 ≤ length c → begins (head (c ++ rest)) ≡ true
letters_begin rest no_span l = absurd (omega arith)
letters_begin rest (more_span {a} {b} x y) l = rw (append_assoc a b rest) (go (letters_long x) (λ k. letters_begin (b ++ rest) x k))
  where
    go : (a ≡ []) ⊎ (1 ≤ length a) → (1 ≤ length a → begins (head (a ++ (b ++ rest))) ≡ true) → begins (head (a ++ (b ++ rest))) ≡ true
    go (inl e) f = rw e (span_begins rest y)
    go (inr k) f = f k

-- a set with a span takes some symbol: it is not 0
record Some (set : ℕ) : Type 0 where
  symbol : ℕ
  taken : takes set symbol ≡ true

span_some : {b : List ℕ} {set : ℕ} → Span b set → Some set
span_some (digit_range (range {low} {high} x y l)) =
    let q = digit_is y in
    record {
      symbol = low;
      taken = takes_span low high low l (omega (arith, q.1)) (omega (arith, q.1)) ∙ rw (le-leb low low (omega arith), le-leb low high l);
    }
span_some (letter_range (range {low} {high} x y l)) =
    let q = letter_is y in
    record { symbol = low; taken = takes_span low high low l q.2 (omega (arith, q.2)) ∙ rw (le-leb low low (omega arith), le-leb low high l) }
span_some (one_symbol {c} x) =
    let q = symbol_is x in
    record { symbol = c; taken = takes_span c c c (omega arith) q.1 (omega (arith, q.1)) ∙ rw (le-leb c c (omega arith)) }

pub none_taken : (c : ℕ) → takes 0 c ≡ false
unfolding takes
none_taken c = rw (zero-div (2 ^ c))

not_none : (set : ℕ) → Some set → eqb set 0 ≡ false
not_none set x = ne_eqb set 0 (λ e.
    let z : true ≡ false = sym (rw e at x.taken) ∙ none_taken x.symbol in
    let y : ◌≡◌ {A = ℕ} 0 1 = cc in omega arith)

letters_some : {c : List ℕ} {set : ℕ} → digit_letter c set → 1 ≤ length c → eqb set 0 ≡ false
letters_some no_span l = absurd (omega arith)
letters_some (more_span {set} {more} x y) l =
    given (span_some y) (λ z. not_none (bit_or set more) (record {
      symbol = z.symbol;
      taken = takes_union set more z.symbol ∙ or_right (takes set z.symbol) _ z.taken;
    }))

letters_none : {c : List ℕ} {set : ℕ} → digit_letter c set → eqb set 0 ≡ false → 1 ≤ length c
letters_none no_span e = let y : ◌≡◌ {A = ℕ} 0 1 = cc in omega arith
letters_none (more_span {a} {b} x y) e = rw (length-append a b) (omega (arith, span_long y))

-- reading goes over a set span by span
record Run (s c : List ℕ) (set at : ℕ) : Type 0 where
  count : ℕ
  few : count ≤ length c
  runs : (k : ℕ) → letters_f (count + k) s 0 0 at ≡ letters_f k s set (length c) (at + length c)

letters_step : (s : List ℕ) (k set size at more n p : ℕ) → span_at s at ≡ selector more n p
    → letters_f (suc k) s set size at ≡ letters_f k s (bit_or set more) (size + n) p
unfolding letters_f taken
letters_step s k set size at more n p e = rw e

letters_run : (s : List ℕ) {c : List ℕ} {set : ℕ} (at : ℕ) (rest : List ℕ) → digit_letter c set → eqb (head rest) dash ≡ false
    → drop at s ≡ c ++ rest
    → Run s c set at
letters_run s at rest no_span d h = record { count = 0; few = omega arith; runs = λ k. rw (zero-add k, add-zero at) }
letters_run s at rest (more_span {a} {b} {set} {more} x y) d h =
    let g : drop at s ≡ a ++ (b ++ rest) = h ∙ append_assoc a b rest in
    go (letters_run s at (b ++ rest) x (begins_no_dash _ (span_begins rest y)) g)
    (span_reads s (at + length a) rest y d (behind s a (b ++ rest) at g))
  where
    go : Run s a set at → span_at s (at + length a) ≡ selector more (length b) (at + length a + length b) → Run s (a ++ b) (bit_or set more) at
    go r e = record {
      count = suc r.count;
      few = rw (length-append a b) (omega (arith, r.few, span_long y));
      runs = λ k.
          let i : suc r.count + k ≡ r.count + suc k = omega arith in
          let j : at + length a + length b ≡ at + (length a + length b) = omega arith in
          rw (i, r.runs (suc k), letters_step s k set (length a) (at + length a) more (length b) (at + length a + length b) e, j, length-append a b);
    }

-- no span stands here
span_absent : (s rest : List ℕ) (at : ℕ) → drop at s ≡ rest → ltb (symbol_of (head rest)) 21 ≡ false → span_at s at ≡ absent
unfolding span_at symbol_at pick
span_absent s rest at h e = rw (at_head s at, h, e)

letters_end : (s : List ℕ) (k set size at : ℕ) → span_at s at ≡ absent → letters_f (suc k) s set size at ≡ selector set size at
unfolding letters_f taken
letters_end s k set size at e = rw e

letters_reads : (s : List ℕ) {c : List ℕ} {set : ℕ} (at : ℕ) (rest : List ℕ) → digit_letter c set → length c ≤ 62
    → eqb (head rest) dash ≡ false → ltb (symbol_of (head rest)) 21 ≡ false → drop at s ≡ c ++ rest
    → Selects s (letters_f 64 s 0 0 at) set (length c) rest
letters_reads s {c} {set} at rest x l d e h = given (letters_run s at rest x d h) (λ r.
    let k : 64 ≡ r.count + suc (63 - r.count) = omega (arith, r.few) in
    record {
      end = at + length c;
      is = ap (λ k. letters_f k s 0 0 at) k ∙ r.runs (suc (63 - r.count))
          ∙ letters_end s (63 - r.count) set (length c) (at + length c) (span_absent s rest (at + length c) (behind s c rest at h) e);
      leaves = behind s c rest at h;
    })

-- ---- digitMapRange from its `[`

-- none of the bytes that white space begins with is a symbol or a dash
pub white_no_symbol : {v : List ℕ} (r : List ℕ) → LWSP v → ltb (symbol_of (head r)) 21 ≡ false → ltb (symbol_of (head (v ++ r))) 21 ≡ false
unfolding every has pick symbol_of letter_of is_digit capital
white_no_symbol r w h = white_first (λ b. ltb (symbol_of b) 21) refl r w h

pub white_no : (m : ℕ) → every (λ b. not (eqb b m)) ends ≡ true → {v : List ℕ} (r : List ℕ) → LWSP v → eqb (head r) m ≡ false
    → eqb (head (v ++ r)) m ≡ false
white_no m e r w h = white_first (λ b. eqb b m) e r w h

pub white_no_x : {v : List ℕ} (r : List ℕ) → LWSP v → eqb (capital (head r)) 0x58 ≡ false → eqb (capital (head (v ++ r))) 0x58 ≡ false
unfolding every has pick capital
white_no_x r w h = white_first (λ b. eqb (capital b) 0x58) refl r w h

module _ (s : List ℕ) where
  close_reads : {d e : List ℕ} (rest : List ℕ) (at set size : ℕ) → LWSP d → LWSP e → Solid rest → drop at s ≡ d ++ right_bracket ∷ (e ++ rest)
      → Selects s (close_at s set size at) set (size + 2) rest
  unfolding close_at pick goes_on is_white
  close_reads {d} {e} rest at set size x y k h =
      selects_spaced s (white_at s at) _ (white_complete s (right_bracket ∷ (e ++ rest)) at x refl h) (λ p l.
      rw (is_at_head s (right_bracket ∷ (e ++ rest)) p right_bracket l)
      (selects_spaced s (white_at s (p + 1)) _ (white_complete s rest (p + 1) y k (step s (e ++ rest) p right_bracket l))
      (λ q m. record { end = q; is = refl; leaves = m })))

  pub bracket_reads : {a b c d e : List ℕ} {set : ℕ} (rest : List ℕ) → LWSP a → LWSP b → digit_letter c set → 1 ≤ length c → length c ≤ 62 → LWSP d
      → LWSP e
      → Solid rest
      → s ≡ a ++ left_bracket ∷ (b ++ (c ++ (d ++ right_bracket ∷ (e ++ rest)))) → Selects s (bracket_at s) set (length c + 2) rest
  unfolding bracket_at range_at pick goes_on is_white every has symbol_of letter_of is_digit capital
  bracket_reads {a} {b} {c} {d} {e} {set} rest x y z l u v w k h =
      let r4 = d ++ right_bracket ∷ (e ++ rest) in
      let r2 = b ++ (c ++ r4) in
      selects_spaced s (white_at s 0) _ (white_complete s (left_bracket ∷ r2) 0 x refl h) (λ p i.
      rw (is_at_head s (left_bracket ∷ r2) p left_bracket i)
      (selects_spaced s (white_at s (p + 1)) _ (white_complete s (c ++ r4) (p + 1) y (begins_solid _ (letters_begin r4 z l)) (step s r2 p left_bracket i))
      (λ q j.
      selects_taken s (letters_f 64 s 0 0 q) _ malformed
      (letters_reads s q r4 z u (white_no dash refl (right_bracket ∷ (e ++ rest)) v refl) (white_no_symbol (right_bracket ∷ (e ++ rest)) v refl) j)
      (λ o m.
      rw (letters_some z l) (close_reads rest o set (length c) v w k m)))))

-- ---- what is read of sets

abbrev Letters : ℕ → ℕ → List ℕ → Type 0
Letters set n c = digit_letter c set × (n ≡ length c)

-- from a part of a set that is read
letters_sound : (k : ℕ) (s t : List ℕ) {c : List ℕ} (set₀ n₀ at set n e : ℕ) → digit_letter c set₀ → n₀ ≡ length c → t ≡ c ++ drop at s
    → letters_f k s set₀ n₀ at ≡ selector set n e → Part (Letters set n) t (drop e s)
unfolding letters_f
letters_sound zero s t set₀ n₀ at set n e x l i h = absurd (malformed_takes h)
letters_sound (suc k) s t {c} set₀ n₀ at set n e x l i h = taken_takes (span_at s at) _ (selector set₀ n₀ at) h
    (λ more m p f g. given (span_sound s at more m p f) (λ y.
    letters_sound k s t (bit_or set₀ more) (n₀ + m) p set n e (more_span x y.derives.0)
    (rw (length-append c y.bytes) (omega (arith, y.derives.1)))
    (i ∙ rw y.split (sym (append_assoc c y.bytes (drop p s)))) g))
    (λ f g. given (same_takes g) (λ z. record { bytes = c; derives = (rw (← z.0) x, sym z.1 ∙ l); split = i ∙ rw z.2 }))

module _ (s : List ℕ) where
  -- what closes a set
  close_sound : (set n at set' n' e : ℕ) → close_at s set n at ≡ selector set' n' e
      → (d f : List ℕ) × LWSP d × LWSP f × (drop at s ≡ d ++ right_bracket ∷ (f ++ drop e s)) × (set ≡ set') × (n + 2 ≡ n')
  unfolding close_at
  close_sound set n at set' n' e h = spaced_takes (white_at s at) _ h (λ p i h. given (white_sound s at p i) (λ x.
      pick_malformed (is_at s p right_bracket) _ h (λ t h. spaced_takes (white_at s (p + 1)) _ h (λ q j h.
      given (white_sound s (p + 1) q j) (λ y. given (same_takes h) (λ z. (
        x.bytes,
        y.bytes,
        x.derives,
        y.derives,
        x.split ∙ rw (is_at_cons s p right_bracket (omega arith) t, y.split, z.2),
        z.0,
        z.1,
      )))))))

  pub bracket_sound : (set n e : ℕ) → bracket_at s ≡ selector set n e → Part (λ a. digit_map_range a set n) s (drop e s)
  unfolding bracket_at range_at
  bracket_sound set n e h = spaced_takes (white_at s 0) _ h (λ p i h. given (white_sound s 0 p i) (λ x.
      pick_absent (is_at s p left_bracket) _ h (λ t h. spaced_takes (white_at s (p + 1)) _ h (λ q j h. given (white_sound s (p + 1) q j) (λ y.
      taken_takes (letters_f 64 s 0 0 q) _ malformed h
      (λ set₀ m o f h. given (letters_sound 64 s (drop q s) 0 0 q set₀ m o no_span refl refl f) (λ c. not_empty (eqb set₀ 0) _ h (λ u h.
      given (close_sound set₀ m o set n e h) (λ v. record {
        bytes = x.bytes ++ left_bracket ∷ (y.bytes ++ (c.bytes ++ (v.0 ++ right_bracket ∷ v.1)));
        derives = rw (← v.5, ← v.6, c.derives.1)
            (set_of x.derives y.derives c.derives.0 (omega (arith, letters_none c.derives.0 u)) v.2 v.3);
        split = x.split ∙ rw (is_at_cons s p left_bracket (omega arith) t, y.split, c.split, v.4) (simp append_assoc);
      }))))
      (λ f h. absurd (malformed_takes h)))))))
    where
      not_empty : {C : Type 0} (t : Bool) (r : SelectorRead) → pick t malformed r ≡ selector set n e → (t ≡ false → r ≡ selector set n e → C) → C
      not_empty true r h k = unfold pick in absurd (malformed_takes h)
      not_empty false r h k = unfold pick in k refl h

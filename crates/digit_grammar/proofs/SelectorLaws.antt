-- Selectors: positions and elements of the grammar are read, and what is read is of the grammar.
use Prim.Native.Nat.{ℕ, ◌+◌, ◌≤◌}
use mathlib.Core.Path.{◌≡◌, refl, sym, ◌∙◌}
use mathlib.Core.Bool.{true, false}
use mathlib.Core.List.{List, [], ◌∷◌, ◌++◌, append_assoc}
use lib.ListN.{drop}
use lib.Dec.{ltb, eqb}
use lib.Bits.{bit_or}
use borrow.Author.Tests.{eqb-true, ltb-true, lt-ltb, eq-eqb}
use native.Mathlib.Omega.{arith}
use Rattle.base.specs.Pick.{pick}
use Rattle.base.specs.Lists.{is_at, every, has}
use Rattle.megaco.specs.Bytes.{dot, is_digit, is_white, capital}
use Rattle.megaco.specs.White.{goes_on}
use Rattle.grammar.specs.Grammar.{LWSP, no_lwsp}
use Rattle.grammar.proofs.Places.{head, at_head, is_at_head, is_at_cons, whether, given}
use Rattle.grammar.proofs.WhiteLaws.{Solid, white_append, white_complete}
use Rattle.digits.specs.Symbols.{letter_of, symbol_of, symbol_at, dot_bit}
use Rattle.digits.specs.DigitMap.{left_bracket, right_bracket, taken, spaced, bracket_at, is_x, position_at, dot_at, element_at, SelectorRead, selector, absent}
use Rattle.digit_grammar.specs.DigitGrammar.{any_digit, set_of, digit_position, symbol_position, range_position, digit_string_element, no_dot, with_dot}
use Rattle.digit_grammar.proofs.SymbolLaws.{symbol_is, any_symbol, begins, begins_not, x_no_symbol}
use Rattle.digit_grammar.proofs.SpanLaws.{Selects, Part, same_takes, absent_takes, symbol_here, step, taken_takes}
use Rattle.digit_grammar.proofs.RangeLaws.{white_no_symbol, white_no, white_no_x, bracket_reads, bracket_sound}

-- ---- positions and elements

-- white space that stands behind a selector: a reader keeps it, or has gone past it
pub data Left (u r : List ℕ) : List ℕ → Type 0 where
  kept : Left u r (u ++ r)
  passed : Left u r r

pub record Reads (s : List ℕ) (x : SelectorRead) (set size : ℕ) (u r : List ℕ) : Type 0 where
  pub rest : List ℕ
  pub left : Left u r rest
  pub selects : Selects s x set size rest

regroup_set : (a b c d e u r : List ℕ)
    → (a ++ left_bracket ∷ (b ++ (c ++ (d ++ right_bracket ∷ e)))) ++ (u ++ r) ≡ a ++ left_bracket ∷ (b ++ (c ++ (d ++ right_bracket ∷ ((e ++ u) ++ r))))
regroup_set a b c d e u r = simp append_assoc

first_is : (s t : List ℕ) → s ≡ t → (symbol_at s 0 ≡ symbol_of (head t)) × (is_x s ≡ eqb (capital (head t)) 0x58)
unfolding symbol_at is_x
first_is s t h = (rw (at_head s 0, h), rw (at_head s 0, h))

position_reads : (s : List ℕ) {a : List ℕ} {set n : ℕ} (u r : List ℕ) → digit_position a set n → n ≤ 64 → LWSP u → Solid r → s ≡ a ++ (u ++ r)
    → Reads s (position_at s) set n u r
unfolding position_at pick every has symbol_of letter_of is_digit capital
position_reads s u r (symbol_position {b} {c} x) l w k h = given (symbol_is x) (λ p. given (first_is s _ h) (λ f.
    record { rest = u ++ r; left = kept; selects = record { end = 1; is = rw (f.0, p.0, lt-ltb c 21 p.1); leaves = step s (u ++ r) 0 b h } }))
position_reads s u r (range_position (any_digit {b} e)) l w k h = given (first_is s _ h) (λ f.
    record {
      rest = u ++ r;
      left = kept;
      selects = record { end = 1; is = rw (f.0, x_no_symbol b e, f.1, eq-eqb _ _ e); leaves = step s (u ++ r) 0 b h };
    })
position_reads s u r (range_position (set_of {a} {b} {c} {d} {e} x y z i v o)) l w k h =
    let g = h ∙ regroup_set a b c d e u r in
    let t = left_bracket ∷ (b ++ (c ++ (d ++ right_bracket ∷ ((e ++ u) ++ r)))) in
    given (first_is s _ g) (λ f.
    rw (f.0, white_no_symbol t x refl, f.1, white_no_x t x refl)
    (record { rest = r; left = passed; selects = bracket_reads s r x y z i (omega arith) v (white_append o w) k g }))

left_no_dot : {u r rest : List ℕ} → Left u r rest → LWSP u → eqb (head r) dot ≡ false → eqb (head rest) dot ≡ false
unfolding every has pick
left_no_dot {r} kept w e = white_no dot refl r w e
left_no_dot passed w e = e

no_dot_here : (s rest : List ℕ) (set size at : ℕ) → drop at s ≡ rest → eqb (head rest) dot ≡ false → dot_at s set size at ≡ selector set size at
unfolding dot_at pick
no_dot_here s rest set size at h e = rw (is_at_head s rest at dot h, e)

dot_here : (s rest : List ℕ) (set size at : ℕ) → drop at s ≡ dot ∷ rest → dot_at s set size at ≡ selector (bit_or set dot_bit) (size + 1) (at + 1)
unfolding dot_at pick
dot_here s rest set size at h = rw (is_at_head s (dot ∷ rest) at dot h)

element_is : (s : List ℕ) (set size p : ℕ) → position_at s ≡ selector set size p → element_at s ≡ dot_at s set size p
unfolding element_at taken
element_is s set size p e = rw e

-- a selector is read, with the white space behind it or without, where no dot follows
pub element_reads : (s : List ℕ) {a : List ℕ} {set n : ℕ} (u r : List ℕ) → digit_string_element a set n → n ≤ 64 → LWSP u → Solid r
    → eqb (head r) dot ≡ false
    → s ≡ a ++ (u ++ r) → Reads s (element_at s) set n u r
unfolding goes_on is_white
element_reads s u r (no_dot {set} {n} x) l w k d h = given (position_reads s u r x l w k h) (λ p. record {
  rest = p.rest;
  left = p.left;
  selects = record {
    end = p.selects.end;
    is = element_is s set n p.selects.end p.selects.is
        ∙ no_dot_here s p.rest set n p.selects.end p.selects.leaves (left_no_dot p.left w d);
    leaves = p.selects.leaves;
  };
})
element_reads s u r (with_dot {a} {set} {n} x) l w k d h =
    given (position_reads s [] (dot ∷ (u ++ r)) x (omega arith) no_lwsp refl (h ∙ append_assoc a (dot ∷ []) (u ++ r))) (λ p.
    given (same p.left) (λ e.
    let m : drop p.selects.end s ≡ dot ∷ (u ++ r) = p.selects.leaves ∙ e in
    record {
      rest = u ++ r;
      left = kept;
      selects = record {
        end = p.selects.end + 1;
        is = element_is s set n p.selects.end p.selects.is ∙ dot_here s (u ++ r) set n p.selects.end m;
        leaves = step s (u ++ r) p.selects.end dot m;
      };
    }))
  where
    same : {r rest : List ℕ} → Left [] r rest → rest ≡ r
    same kept = refl
    same passed = refl

-- what begins no selector
pub record Stop (t : List ℕ) : Type 0 where
  pub solid : Solid t
  pub no_selector : begins (head t) ≡ false
  pub no_dot : eqb (head t) dot ≡ false

-- no selector stands here
pub element_absent : {v : List ℕ} (t : List ℕ) → LWSP v → Stop t → element_at (v ++ t) ≡ absent
unfolding element_at position_at bracket_at taken spaced pick
element_absent {v} t w x =
    given (begins_not (head t) x.no_selector) (λ n. given (first_is (v ++ t) (v ++ t) refl) (λ f.
    given (white_complete (v ++ t) t 0 w x.solid refl) (λ g.
    rw (f.0, white_no_symbol t w n.0, f.1, white_no_x t w n.1, g.is, is_at_head (v ++ t) t g.end left_bracket g.leaves, n.2))))

-- ---- what is read of positions and elements

-- `x` stands here
x_here : (s : List ℕ) → is_x s ≡ true → (b : ℕ) × (capital b ≡ 0x58) × (s ≡ b ∷ drop 1 s)
unfolding is_x capital pick
x_here [] e = let y : ◌≡◌ {A = ℕ} 0 1 = cc in absurd (omega arith)
x_here (b ∷ s) e = (b, eqb-true (capital b) 0x58 e, refl)

position_sound : (s : List ℕ) (set n e : ℕ) → position_at s ≡ selector set n e → Part (λ a. digit_position a set n) s (drop e s)
unfolding position_at pick
position_sound s set n e h = whether (ltb (symbol_at s 0) 21)
    (λ t. given (symbol_here s 0 (ltb-true _ 21 t)) (λ x. given (same_takes (rw t at h)) (λ z. record {
      bytes = x.byte ∷ [];
      derives = rw (← z.0, ← z.1, ← x.symbol) (symbol_position (any_symbol x.byte (rw x.symbol (ltb-true _ 21 t))));
      split = x.here ∙ rw z.2;
    })))
    (λ t. given (rw t at h) (λ h. whether (is_x s)
    (λ u. given (x_here s u) (λ x. given (same_takes (rw u at h)) (λ z. record {
      bytes = x.0 ∷ [];
      derives = rw (← z.0, ← z.1) (range_position (any_digit x.1));
      split = x.2 ∙ rw z.2;
    })))
    (λ u. given (bracket_sound s set n e (rw u at h)) (λ x. record { bytes = x.bytes; derives = range_position x.derives; split = x.split }))))

-- what is read as a selector is one of the grammar
pub element_sound : (s : List ℕ) (set n e : ℕ) → element_at s ≡ selector set n e → Part (λ a. digit_string_element a set n) s (drop e s)
unfolding element_at dot_at pick
element_sound s set n e h = taken_takes (position_at s) (dot_at s) absent h
    (λ set₀ m p f h. given (position_sound s set₀ m p f) (λ x. whether (is_at s p dot)
    (λ t. given (same_takes (rw t at h)) (λ z. record {
      bytes = x.bytes ++ dot ∷ [];
      derives = rw (← z.0, ← z.1) (with_dot x.derives);
      split = x.split ∙ rw (is_at_cons s p dot (omega arith) t, z.2) (sym (append_assoc x.bytes (dot ∷ []) (drop e s)));
    }))
    (λ t. given (same_takes (rw t at h)) (λ z. record {
      bytes = x.bytes;
      derives = rw (← z.0, ← z.1) (no_dot x.derives);
      split = x.split ∙ rw z.2;
    }))))
    (λ f h. absurd (absent_takes h))

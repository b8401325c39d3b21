-- A selector's number says what its derivation says: bit c, that the symbol c satisfies it; bit 21, that a dot stands after it.
use Prim.Native.Nat.{ℕ, ◌≤◌, ◌<◌}
use mathlib.Core.Path.{◌≡◌, refl, sym, ◌∙◌}
use mathlib.Core.Logic.{◌⊎◌, inl, inr, ◌↔◌}
use mathlib.Core.Bool.{Bool, true, false, not}
use mathlib.Core.List.{List}
use lib.Dec.{leb}
use lib.Bits.{bit_or}
use borrow.Author.Tests.{leb-true, le-leb, not-true}
use native.Mathlib.Omega.{arith}
use Rattle.base.proofs.TestLaws.{not_holds}
use Rattle.grammar.proofs.Classes.{or_true, or_left, or_right, or_only, and_both, and_parts}
use Rattle.grammar.proofs.Places.{given}
use Rattle.digits.specs.Symbols.{takes, span_of, dot_bit, dotted}
use Rattle.digits.proofs.SetLaws.{below, below_at, takes_span, takes_union}
use Rattle.digit_grammar.specs.DigitGrammar.{range, Span, digit_range, letter_range, one_symbol, digit_letter, no_span, more_span, any_digit, set_of, digit_position, symbol_position, range_position, digit_string_element, no_dot, with_dot}
use Rattle.digit_grammar.specs.Meaning.{InSpan, InSet, InPosition, InElement, HasDot}
use Rattle.digit_grammar.proofs.SymbolLaws.{digit_is, letter_is, symbol_is}
use Rattle.digit_grammar.proofs.RangeLaws.{none_taken}

-- ---- numbers

-- the symbols from one to another, and no dot
between : (low high c : ℕ) → low ≤ high → high < 21 → c < 22 → takes (span_of low high) c ≡ true ↔ (low ≤ c) × (c ≤ high)
between low high c l h m = (
  λ e. given (and_parts (leb low c) _ (sym (takes_span low high c l h m) ∙ e)) (λ p. (leb-true _ _ p.0, leb-true _ _ p.1)),
  λ p. takes_span low high c l h m ∙ and_both (leb low c) _ (le-leb _ _ p.0) (le-leb _ _ p.1),
)

itself : (d c : ℕ) → d < 21 → c < 22 → takes (span_of d d) c ≡ true ↔ (d ≡ c)
itself d c h m = (
  λ e. given ((between d d c (omega arith) h m).0 e) (λ p. omega (arith, p.0, p.1)),
  λ e. (between d d c (omega arith) h m).1 (omega arith, omega arith),
)

false_not : {t : Bool} → t ≡ false → t ≡ true → ⊥
false_not e f = let z : ◌≡◌ {A = ℕ} 0 1 = cc in omega arith

-- ---- symbols, and 21 with them: no position has the dot's bit

span_takes : {a : List ℕ} {set : ℕ} (y : Span a set) (c : ℕ) → c < 22 → takes set c ≡ true ↔ InSpan y c
span_takes (digit_range (range {low} {high} x y l)) c m = between low high c l (omega (arith, (digit_is y).1)) m
span_takes (letter_range (range {low} {high} x y l)) c m = between low high c l (letter_is y).2 m
span_takes (one_symbol {c = d} x) c m = itself d c (symbol_is x).1 m

set_takes : {a : List ℕ} {set : ℕ} (x : digit_letter a set) (c : ℕ) → c < 22 → takes set c ≡ true ↔ InSet x c
set_takes no_span c m = (λ e. false_not (none_taken c) e, λ e. absurd e)
set_takes (more_span {set} {more} x y) c m = (to (set_takes x c m), from (set_takes x c m))
  where
    to : (takes set c ≡ true ↔ InSet x c) → takes (bit_or set more) c ≡ true → InSet x c ⊎ InSpan y c
    to f e = by (or_true (takes set c) _ (sym (takes_union set more c) ∙ e))
      where
        by : (takes set c ≡ true) ⊎ (takes more c ≡ true) → InSet x c ⊎ InSpan y c
        by (inl t) = inl (f.0 t)
        by (inr t) = inr ((span_takes y c m).0 t)

    from : (takes set c ≡ true ↔ InSet x c) → InSet x c ⊎ InSpan y c → takes (bit_or set more) c ≡ true
    from f (inl t) = takes_union set more c ∙ or_left (takes set c) _ (f.1 t)
    from f (inr t) = takes_union set more c ∙ or_right (takes set c) _ ((span_takes y c m).1 t)

position_takes : {a : List ℕ} {set n : ℕ} (x : digit_position a set n) (c : ℕ) → c < 22 → takes set c ≡ true ↔ InPosition x c
position_takes (symbol_position {c = d} x) c m = itself d c (symbol_is x).1 m
position_takes (range_position (any_digit e)) c m =
    given (between 0 9 c (omega arith) (omega arith) m) (λ f. (λ t. (f.0 t).1, λ l. f.1 (omega arith, l)))
position_takes (range_position (set_of u v x l w z)) c m = set_takes x c m

-- which symbols satisfy a selector
dot_none : below (λ c. not (takes dot_bit c)) 21 ≡ true
unfolding below takes
dot_none = refl

pub element_takes : {a : List ℕ} {set n : ℕ} (x : digit_string_element a set n) (c : ℕ) → c < 21 → takes set c ≡ true ↔ InElement x c
element_takes (no_dot x) c m = position_takes x c (omega arith)
element_takes (with_dot {set} x) c m =
    let no : takes dot_bit c ≡ false = not-true _ (below_at (λ c. not (takes dot_bit c)) 21 dot_none c m) in
    given (position_takes x c (omega arith)) (λ f. (
      λ e. f.0 (or_only (takes set c) (takes dot_bit c) (sym (takes_union set dot_bit c) ∙ e) no),
      λ e. takes_union set dot_bit c ∙ or_left (takes set c) _ (f.1 e),
    ))

-- ---- the dot

no_span_lem : {a : List ℕ} {set : ℕ} (y : Span a set) → InSpan y 21 → ⊥
no_span_lem (digit_range (range x y l)) e = omega (arith, (digit_is y).1, e.1)
no_span_lem (letter_range (range x y l)) e = omega (arith, (letter_is y).2, e.1)
no_span_lem (one_symbol x) e = omega (arith, (symbol_is x).1)

no_set : {a : List ℕ} {set : ℕ} (x : digit_letter a set) → InSet x 21 → ⊥
no_set no_span e = e
no_set (more_span x y) (inl e) = no_set x e
no_set (more_span x y) (inr e) = no_span_lem y e

no_position : {a : List ℕ} {set n : ℕ} (x : digit_position a set n) → InPosition x 21 → ⊥
no_position (symbol_position x) e = omega (arith, (symbol_is x).1)
no_position (range_position (any_digit i)) e = omega arith
no_position (range_position (set_of u v x l w z)) e = no_set x e

-- a selector is repeated exactly where a dot stands after it
pub element_dotted : {a : List ℕ} {set n : ℕ} (x : digit_string_element a set n) → dotted set ≡ HasDot x
unfolding dotted
element_dotted (no_dot {set} x) = not_holds (takes set 21) (λ e. no_position x ((position_takes x 21 (omega arith)).0 e))
element_dotted (with_dot {set} x) = takes_union set dot_bit 21 ∙ or_right (takes set 21) _ (unfold takes in refl)

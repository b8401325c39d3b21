-- What a selector's derivation says: the symbols that satisfy it, and whether a dot stands after it. That its number says the same is
-- proved (proofs/MeaningLaws).
use Rattle.std.specs.Prelude.{ℕ, ◌≤◌, ◌≡◌, ◌⊎◌, Bool, true, false, List}
use Rattle.digit_grammar.specs.DigitGrammar.{range, Span, digit_range, letter_range, one_symbol, digit_letter, no_span, more_span, any_digit, set_of, digit_position, symbol_position, range_position, digit_string_element, no_dot, with_dot}

-- a range: from its first symbol to its last; a symbol: itself
abbrev pub InSpan : {a : List ℕ} {set : ℕ} → Span a set → ℕ → Type 0
InSpan (digit_range (range {low} {high} x y l)) c = (low ≤ c) × (c ≤ high)
InSpan (letter_range (range {low} {high} x y l)) c = (low ≤ c) × (c ≤ high)
InSpan (one_symbol {c = d} x) c = d ≡ c

-- "explicit sets of symbols, designating alternative events any one of which satisfies that position" (7.1.14.3)
abbrev pub InSet : {a : List ℕ} {set : ℕ} → digit_letter a set → ℕ → Type 0
InSet no_span c = ⊥
InSet (more_span x y) c = InSet x c ⊎ InSpan y c

-- "The letter "x" is used as a wildcard, designating any event corresponding to symbols in the range "0"-"9""
abbrev pub InPosition : {a : List ℕ} {set n : ℕ} → digit_position a set n → ℕ → Type 0
InPosition (symbol_position {c = d} x) c = d ≡ c
InPosition (range_position (any_digit e)) c = c ≤ 9
InPosition (range_position (set_of u v x l w z)) c = InSet x c

abbrev pub InElement : {a : List ℕ} {set n : ℕ} → digit_string_element a set n → ℕ → Type 0
InElement (no_dot x) c = InPosition x c
InElement (with_dot x) c = InPosition x c

abbrev pub HasDot : {a : List ℕ} {set n : ℕ} → digit_string_element a set n → Bool
HasDot (no_dot x) = false
HasDot (with_dot x) = true

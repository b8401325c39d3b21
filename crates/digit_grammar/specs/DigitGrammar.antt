-- The grammar of a digit map: digitMap and the rules below it in Annex B.2 of RFC 3525, as document 02 changes them (CR 8).
--
-- A rule is a relation over the bytes that it derives, under Annex B's name and with a constructor for each alternative, as in crate grammar.
-- Beside the bytes stands what they leave in the map: a symbol's number, a set (bit n for the symbol n), a selector (a set, with bit 21 for its
-- dot), an alternative (selectors), a map (alternatives). Then, from a selector to an alternative, how many characters they have: "white space
-- not counted". Annex B's words stand before each rule in ABNF, document 02's between quotes. A rule stands behind those that it uses.
use Rattle.std.specs.Prelude.{ℕ, ◌+◌, ◌-◌, ◌≤◌, ◌≡◌, List, [], ◌∷◌, ◌++◌, length}
use Rattle.std.specs.Int.Bits.{bit_or}
use Rattle.megaco.specs.Bytes.{dot, dash, capital}
use Rattle.grammar.specs.Characters.{DIGIT}
use Rattle.grammar.specs.Grammar.{LWSP, Around, AtMost}
use Rattle.digits.specs.Symbols.{span_of, dot_bit}
use Rattle.digits.specs.DigitMap.{left_bracket, right_bracket, left_paren, right_paren, bar}

-- ---- symbols

-- DIGIT: the symbols 0 to 9
pub data digit_symbol : ℕ → ℕ → Type 0 where
  digit_of : {b : ℕ} → DIGIT b → digit_symbol b (b - 0x30)

-- %x41-4B / %x61-6B ; a-k, A-K: the symbols 10 to 20, "in either case"
pub data letter_symbol : ℕ → ℕ → Type 0 where
  upper_of : {b : ℕ} → 0x41 ≤ b → b ≤ 0x4b → letter_symbol b (b - 0x41 + 10)
  lower_of : {b : ℕ} → 0x61 ≤ b → b ≤ 0x6b → letter_symbol b (b - 0x61 + 10)

-- digitMapLetter = DIGIT / %x41-4B / %x61-6B / "L" / "S" / "Z": "digits, letters A to K .. in either case", so no "L", "S", "Z"
pub data digit_map_letter : ℕ → ℕ → Type 0 where
  basic_digit : {b c : ℕ} → digit_symbol b c → digit_map_letter b c
  basic_letter : {b c : ℕ} → letter_symbol b c → digit_map_letter b c

-- ---- selectors

-- X "-" X: the symbols from one to another, but not "a range that runs backward"
pub data Range (X : ℕ → ℕ → Type 0) : List ℕ → ℕ → Type 0 where
  range : {a b low high : ℕ} → X a low → X b high → low ≤ high → Range X (a ∷ dash ∷ b ∷ []) (span_of low high)

-- (DIGIT "-" DIGIT ) / digitMapLetter: "ranges (letters too)", but not one that "mixes digit and letter"
pub data Span : List ℕ → ℕ → Type 0 where
  digit_range : {a : List ℕ} {set : ℕ} → Range digit_symbol a set → Span a set
  letter_range : {a : List ℕ} {set : ℕ} → Range letter_symbol a set → Span a set
  one_symbol : {b c : ℕ} → digit_map_letter b c → Span (b ∷ []) (span_of c c)

-- digitLetter = *((DIGIT "-" DIGIT ) / digitMapLetter): the union of the sets
pub data digit_letter : List ℕ → ℕ → Type 0 where
  no_span : digit_letter [] 0
  more_span : {a b : List ℕ} {set more : ℕ} → digit_letter a set → Span b more → digit_letter (a ++ b) (bit_or set more)

-- digitMapRange = ("x" / (LWSP "[" LWSP digitLetter LWSP "]" LWSP)): "`x` in either case" is any digit; "an empty set" is malformed
pub data digit_map_range : List ℕ → ℕ → ℕ → Type 0 where
  any_digit : {b : ℕ} → capital b ≡ 0x58 → digit_map_range (b ∷ []) (span_of 0 9) 1
  set_of : {a b c d e : List ℕ} {set : ℕ} → LWSP a → LWSP b → digit_letter c set → 1 ≤ length c → LWSP d → LWSP e
      → digit_map_range (a ++ left_bracket ∷ (b ++ (c ++ (d ++ right_bracket ∷ e)))) set (length c + 2)

-- digitPosition = digitMapLetter / digitMapRange
pub data digit_position : List ℕ → ℕ → ℕ → Type 0 where
  symbol_position : {b c : ℕ} → digit_map_letter b c → digit_position (b ∷ []) (span_of c c) 1
  range_position : {a : List ℕ} {set n : ℕ} → digit_map_range a set n → digit_position a set n

-- digitStringElement = digitPosition [DOT]: "`.` after a selector for zero or more"
pub data digit_string_element : List ℕ → ℕ → ℕ → Type 0 where
  no_dot : {a : List ℕ} {set n : ℕ} → digit_position a set n → digit_string_element a set n
  with_dot : {a : List ℕ} {set n : ℕ} → digit_position a set n → digit_string_element (a ++ dot ∷ []) (bit_or set dot_bit) (n + 1)

-- ---- alternatives and maps

-- digitString = 1*(digitStringElement)
pub data digit_string : List ℕ → List ℕ → ℕ → Type 0 where
  last_element : {a : List ℕ} {set n : ℕ} → digit_string_element a set n → digit_string a (set ∷ []) n
  next_element : {a b x : List ℕ} {set n m : ℕ} → digit_string_element a set n → digit_string b x m → digit_string (a ++ b) (set ∷ x) (n + m)

-- "alternatives of 1 to 64 characters, white space not counted"
pub data Alternative : List ℕ → List ℕ → Type 0 where
  alternative : {a x : List ℕ} {n : ℕ} → digit_string a x n → n ≤ 64 → Alternative a x

-- digitStringList = digitString *( LWSP "|" LWSP digitString )
pub data digit_string_list : List ℕ → List (List ℕ) → Type 0 where
  last_string : {a x : List ℕ} → Alternative a x → digit_string_list a (x ∷ [])
  next_string : {a b c x : List ℕ} {m : List (List ℕ)} → Alternative a x → Around bar b → digit_string_list c m
      → digit_string_list (a ++ (b ++ c)) (x ∷ m)

-- digitMap = (digitString / LWSP "(" LWSP digitStringList LWSP ")" LWSP): "1 to 16 alternatives"
pub data digit_map : List ℕ → List (List ℕ) → Type 0 where
  one_string : {a x : List ℕ} → Alternative a x → digit_map a (x ∷ [])
  list_of : {a b c : List ℕ} {m : List (List ℕ)} → Around left_paren a → AtMost 16 digit_string_list b m → Around right_paren c
      → digit_map (a ++ (b ++ c)) m

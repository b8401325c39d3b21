-- The grammar on a few texts, by computing what they read as: maps with white space, comments, sets and dots; and texts that it does not derive.
use Prim.Native.Nat.{ℕ}
use mathlib.Core.Path.{refl}
use mathlib.Core.List.{List, [], ◌∷◌}
use Rattle.base.specs.Bytes.{text}
use Rattle.base.specs.Lists.{is_at}
use Rattle.base.specs.Pick.{pick}
use Rattle.megaco.specs.Bytes.{is_digit, is_white, is_line_end, is_comment, capital}
use Rattle.megaco.specs.White.{goes_on, inside_after, stop_at, white_from, white_at}
use Rattle.megaco.specs.Tokens.{whole_at}
use Rattle.megaco.specs.Reading.{bind, skip}
use Rattle.digits.specs.Symbols.{letter_of, symbol_of, symbol_at, span_of}
use Rattle.digits.specs.DigitMap.{taken, spaced, range_to, span_at, letters_f, close_at, range_at, bracket_at, is_x, position_at, dot_at, element_at, element_then, string_f, some_of, string_r, alternative_r, read, gone, onto, ends_at, list_f, bare_r, map_r}
use Rattle.digit_grammar.specs.DigitGrammar.{digit_map}
use Rattle.digit_grammar.proofs.Theorems.{read_derives, no_map}

-- what the samples compute by
unfoldable opened : Unit {0}
unfolding is_at pick is_digit is_white is_line_end is_comment capital goes_on inside_after stop_at white_from white_at whole_at bind skip letter_of symbol_of symbol_at span_of taken spaced range_to span_at letters_f close_at range_at bracket_at is_x position_at dot_at element_at element_then string_f some_of string_r alternative_r read gone onto ends_at list_f bare_r map_r
opened = tt

-- 0 is the bit 1, `[1-7]` 254, `x` 1023, `x.` 1023 and the dot's bit
four_strings : digit_map (text "(0| 00|[1-7]xxx|9011x.)")
    ((1 ∷ []) ∷ (1 ∷ 1 ∷ []) ∷ (254 ∷ 1023 ∷ 1023 ∷ 1023 ∷ []) ∷ (512 ∷ 1 ∷ 2 ∷ 2 ∷ 2098175 ∷ []) ∷ [])
unfolding opened
four_strings = read_derives _ _ refl

-- white space and comments where Annex B has LWSP, a set of a symbol and a range of letters in either case
spaced_list : digit_map (text " ;plan\n( 1 [ 2a-D ;x\r\n] . |\tX )\r\n") ((2 ∷ 2112516 ∷ []) ∷ (1023 ∷ []) ∷ [])
unfolding opened
spaced_list = read_derives _ _ refl

-- white space between selectors, and before a dot, only beside a bracket
beside_brackets : digit_map (text "(1 [23]|[12] .)") ((2 ∷ 12 ∷ []) ∷ (2097158 ∷ []) ∷ [])
unfolding opened
beside_brackets = read_derives _ _ refl

-- one string without parentheses
bare_string : digit_map (text "9[3-3k]") ((512 ∷ 1048584 ∷ []) ∷ [])
unfolding opened
bare_string = read_derives _ _ refl

abbrev Refused : List ℕ → Type 0
Refused s = (m : List (List ℕ)) → ¬ digit_map s m

-- "An empty set, `x` in a set, a range that runs backward or mixes digit and letter, and a `.` with no selector just before it are malformed"
malformed : Refused (text "[]") × Refused (text "[x]") × Refused (text "[3-1]") × Refused (text "[1-A]") × Refused (text ".1") × Refused (text "1..")
unfolding opened
malformed = ((no_map _).0 refl, (no_map _).0 refl, (no_map _).0 refl, (no_map _).0 refl, (no_map _).0 refl, (no_map _).0 refl)

-- white space where Annex B has none
not_spaced : Refused (text "1 2") × Refused (text "x .") × Refused (text "[1 2]") × Refused (text " 1")
unfolding opened
not_spaced = ((no_map _).0 refl, (no_map _).0 refl, (no_map _).0 refl, (no_map _).0 refl)

-- timers and the long duration modifier, an empty string, two strings without parentheses
not_derived : Refused (text "1S") × Refused (text "Z1") × Refused (text "(1|)") × Refused (text "1|2")
unfolding opened
not_derived = ((no_map _).0 refl, (no_map _).0 refl, (no_map _).0 refl, (no_map _).0 refl)

-- How the code finds a keyword: the row's bytes padded with blanks, a word's bytes as three numbers, rows by length.
use Rattle.std.specs.Prelude.{ℕ, zero, suc, ◌+◌, ◌-◌, ◌*◌, ◌<◌, ◌≤◌, ◌^◌, ◌≡◌, Bool, true, false, ◌&&◌, List, [], ◌∷◌, ◌++◌, length, take, drop, replicate, eqb, ltb, leb, Some, None}
use Rattle.std.proofs.Math.Option.{Option, some, none}
use Rattle.std.specs.declared.option.Option as std
use Rattle.std.specs.Int.Bits.{bit_and}
use Rattle.base.specs.Pick.{pick}
use Rattle.base.specs.Lists.{same, every}
use Rattle.megaco.specs.Bytes.{capitals}
use Rattle.megaco.specs.Keywords.{Row as Keyword, row, page, Forms, forms, forms_of}
use Rattle.protocol.specs.Types.{Token, AddToken}
use Rattle.keywords.specs.declared.Row.{Row}

-- what bytes mean: a keyword, or none
abbrev pub Meaning : Type 0
Meaning = std.Option Token

unfoldable pub long_of : Forms → List ℕ
long_of (forms long short) = long

unfoldable pub short_of : Forms → List ℕ
short_of (forms long short) = short

-- a form with blanks behind it
unfoldable pub padded : ℕ → List ℕ → List ℕ
padded n f = f ++ replicate (n - length f) 32

-- the meaning of the row at a place, past the end the last row's
abbrev pub token_in : ℕ → Token → List Keyword → Token
token_in i last [] = last
token_in zero last (row k long short ∷ rs) = k
token_in (suc i) last (row k long short ∷ rs) = token_in i k rs

unfoldable pub token_at : ℕ → Token
token_at i = token_in i AddToken page

unfoldable pub row_of : Token → Row
row_of k = (k, padded 24 (long_of (forms_of k)), padded 2 (short_of (forms_of k)))

unfoldable pub rows_of : List Keyword → List Row
rows_of [] = []
rows_of (row k long short ∷ rs) = row_of k ∷ rows_of rs

-- ---- bytes as one number

unfoldable pub packed : List ℕ → ℕ
packed [] = 0
packed (b ∷ bs) = packed bs * 256 + b

-- n bytes at a place
pub record Packs (n : ℕ) (w : List ℕ) (at r : ℕ) : Type 0 where
  pub is : r ≡ packed (take n (drop at w))
  pub small : r < 256 ^ n

abbrev pub mask : ℕ
mask = 0xdfdf_dfdf_dfdf_dfdf

-- how many bytes are taken at once of so many
unfoldable pub reach : ℕ → ℕ
reach n = pick (ltb n 4) 2 (pick (ltb n 8) 4 8)

unfoldable pub front_key : List ℕ → ℕ
front_key w = bit_and (packed (take (reach (length w)) w)) mask

-- bytes 8 to 15 of a word that the others do not cover
unfoldable pub middle_key : List ℕ → ℕ
middle_key w = pick (ltb (length w) 17) 0 (bit_and (packed (take 8 (drop 8 w))) mask)

unfoldable pub back_key : List ℕ → ℕ
back_key w = bit_and (packed (take (reach (length w)) (drop (length w - reach (length w)) w))) mask

unfoldable pub alike : List ℕ → List ℕ → Bool
alike w f = (eqb (front_key w) (front_key f) && eqb (middle_key w) (middle_key f)) && eqb (back_key w) (back_key f)

-- a form that three numbers tell: one byte, or 2 to 24 capital letters
unfoldable pub is_big : ℕ → Bool
is_big b = leb 0x41 b && leb b 0x5a

pub record Formed (f : List ℕ) : Type 0 where
  pub some : 0 < length f
  pub few : length f ≤ 24
  pub letters : 1 < length f → every is_big f ≡ true

-- ---- the meaning of any bytes

unfoldable pub token_of : Meaning → Option Token
token_of (Some k) = some k
token_of None = none

-- a form of a row
pub data Spelling : Type 0 where
  spelling : (form : List ℕ) (meaning : Token) → Spelling

unfoldable pub spellings_of : List Keyword → List Spelling
spellings_of [] = []
spellings_of (row k long short ∷ rs) = spelling long k ∷ spelling short k ∷ spellings_of rs

-- the meaning of the first that is the word
unfoldable pub first_of : List Spelling → List ℕ → Option Token
first_of [] w = none
first_of (spelling form k ∷ ss) w = let m = first_of ss w in pick (same w form) (some k) m

-- the spellings of a length
unfoldable pub sized : ℕ → List Spelling → List Spelling
sized n [] = []
sized n (spelling f k ∷ ss) = let r = sized n ss in pick (eqb n (length f)) (spelling f k ∷ r) r

-- the spellings but the first so many
unfoldable pub later : ℕ → List Spelling → List Spelling
later zero ss = ss
later (suc n) [] = []
later (suc n) (s ∷ ss) = later n ss

-- the meaning by the spellings of a length, but the first so many
unfoldable pub meaning_later : ℕ → ℕ → List ℕ → Option Token
meaning_later n j w = first_of (later j (sized n (spellings_of page))) (capitals w)

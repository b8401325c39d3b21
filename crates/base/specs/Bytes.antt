-- Text: bytes one after another, numbers in decimal, and a text put into a buffer.
use Rattle.std.specs.Prelude.{ℕ, zero, suc, ◌+◌, ◌/◌, ◌%◌, List, [], ◌∷◌, ◌++◌, ltb}
use Prim.Native.Char.{code}
use Prim.Native.String.{String, len, char_at}
use Rattle.base.specs.Pick.{pick}

-- the bytes of a quoted text, one for each character: texts here are ASCII
abbrev pub text_f : ℕ → ℕ → String → List ℕ
text_f zero i s = []
text_f (suc k) i s = code (char_at s i) ∷ text_f k (i + 1) s

abbrev pub text : String → List ℕ
text s = text_f (len s) 0 s

-- one text and then another; shut, so that a proof sees its parts
infixr 50 ◌then◌
unfoldable pub ◌then◌ : List ℕ → List ℕ → List ℕ
a then b = a ++ b

-- a number in decimal without leading zeros; the first argument bounds its digits
unfoldable pub decimal_f : ℕ → ℕ → List ℕ
decimal_f zero n = []
decimal_f (suc k) n = let front = decimal_f k (n / 10) in pick (ltb n 10) ((48 + n) ∷ []) (front ++ ((48 + n % 10) ∷ []))

unfoldable pub decimal : ℕ → List ℕ
decimal n = decimal_f (n + 1) n

-- a buffer with bytes put in from a position on, as far as it reaches
unfoldable pub put : List ℕ → ℕ → List ℕ → List ℕ
put [] at bs = []
put (y ∷ o) zero [] = y ∷ o
put (y ∷ o) zero (b ∷ bs) = b ∷ put o zero bs
put (y ∷ o) (suc at) bs = y ∷ put o at bs

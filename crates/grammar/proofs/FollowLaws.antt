-- What may stand behind a part: the first byte of the rest is one of a few.
use Prim.Native.Nat.{ℕ}
use mathlib.Core.Path.{◌≡◌, refl}
use mathlib.Core.Bool.{Bool, true, false, not, false≢true}
use mathlib.Core.List.{List, [], ◌∷◌, ◌++◌, append_assoc}
use lib.Dec.{eqb}
use borrow.Author.Tests.{eqb-true, not-true}
use Rattle.base.specs.Pick.{pick}
use Rattle.base.specs.Lists.{every, has}
use Rattle.base.specs.Bytes.{text}
use Rattle.megaco.specs.Bytes.{is_letter, is_digit, is_white, is_word, is_name, is_safe, in_class}
use Rattle.megaco.specs.White.{goes_on}
use Rattle.protocol.specs.Types.{WordByte, NameByte, SafeByte}
use Rattle.grammar.specs.Characters.{SP, HTAB}
use Rattle.grammar.specs.Grammar.{CR, CRLF, LF, comment, Blank, blank_wsp, blank_comment, blank_eol, LWSP, no_lwsp, more_lwsp, Around, around}
use Rattle.grammar.proofs.Classes.{test_not}
use Rattle.grammar.proofs.Places.{head}
use Rattle.grammar.proofs.WhiteLaws.{Solid}
use Rattle.grammar.proofs.RowLaws.{Stops}

-- a test that all bytes of a list pass
pub every_has : (l : List ℕ) (p : ℕ → Bool) (b : ℕ) → every p l ≡ true → has b l ≡ true → p b ≡ true
unfolding every has pick
every_has [] p b e h = absurd (false≢true h)
every_has (x ∷ xs) p b e h = go (p x) (eqb x b) refl refl (every_has xs p b)
  where
    go : (y z : Bool) → p x ≡ y → eqb x b ≡ z → (every p xs ≡ true → has b xs ≡ true → p b ≡ true) → p b ≡ true
    go true true f g r = rw (eqb-true x b g) at f
    go true false f g r = r (rw f at e) (rw g at h)
    go false z f g r = absurd (false≢true (rw f at e))

-- the rest begins with one of these bytes
pub record Follow (l rest : List ℕ) : Type 0 where
  pub first : has (head rest) l ≡ true

-- white space, a comment or a sign; a sign; a sign that closes a part
abbrev pub ends : List ℕ
ends = text " \t\r\n;={,}"

abbrev pub signs : List ℕ
signs = text "={,}"

abbrev pub closing : List ℕ
closing = text ",}"

pub follow_not : {l rest : List ℕ} (t : ℕ → Bool) → every (λ b. not (t b)) l ≡ true → Follow l rest → t (head rest) ≡ false
follow_not {l} {rest} t e h = not-true (t (head rest)) (every_has l (λ b. not (t b)) (head rest) e h.first)

-- a list of bytes in another
pub follow_in : {l rest : List ℕ} (m : List ℕ) → every (λ b. has b m) l ≡ true → Follow l rest → Follow m rest
follow_in {l} {rest} m e h = record { first = every_has l (λ b. has b m) (head rest) e h.first }

pub signs_solid : {rest : List ℕ} → Follow signs rest → Solid rest
unfolding every has pick goes_on is_white
signs_solid = follow_not (goes_on false) refl

pub signs_ends : {rest : List ℕ} → Follow signs rest → Follow ends rest
unfolding every has pick
signs_ends = follow_in ends refl

pub closing_signs : {rest : List ℕ} → Follow closing rest → Follow signs rest
unfolding every has pick
closing_signs = follow_in signs refl

pub brace_closing : {rest : List ℕ} → Follow (text "}") rest → Follow closing rest
unfolding every has pick
brace_closing = follow_in closing refl

-- white space begins with a byte that ends a part
pub blank_ends : {a : List ℕ} (rest : List ℕ) → Blank a → Follow ends (a ++ rest)
unfolding has pick
blank_ends rest (blank_wsp SP) = record { first = refl }
blank_ends rest (blank_wsp HTAB) = record { first = refl }
blank_ends rest (blank_comment (comment m e)) = record { first = refl }
blank_ends rest (blank_eol CR) = record { first = refl }
blank_ends rest (blank_eol CRLF) = record { first = refl }
blank_ends rest (blank_eol LF) = record { first = refl }

pub white_ends : {a rest : List ℕ} → LWSP a → Follow ends rest → Follow ends (a ++ rest)
white_ends no_lwsp h = h
white_ends {rest} (more_lwsp {a} {b} x w) h = rw (append_assoc a b rest) (blank_ends (b ++ rest) x)

pub around_ends : {sign : ℕ} {a : List ℕ} (rest : List ℕ) → has sign ends ≡ true → Around sign a → Follow ends (a ++ rest)
around_ends {sign} rest k (around {a} {b} v w) = rw (append_assoc a (sign ∷ b) rest) (white_ends v (record { first = k }))

-- ---- what ends a part belongs to no row

pub ends_word : {rest : List ℕ} → Follow ends rest → Stops (in_class WordByte) rest
unfolding every has pick in_class is_word is_letter is_digit
ends_word = follow_not (in_class WordByte) refl

pub ends_name : {rest : List ℕ} → Follow ends rest → Stops (in_class NameByte) rest
unfolding every has pick in_class is_name is_word is_letter is_digit
ends_name = follow_not (in_class NameByte) refl

pub ends_safe : {rest : List ℕ} → Follow ends rest → Stops (in_class SafeByte) rest
unfolding every has pick in_class is_safe is_letter is_digit
ends_safe = follow_not (in_class SafeByte) refl

pub ends_digit : {rest : List ℕ} → Follow ends rest → Stops is_digit rest
unfolding every has pick is_digit
ends_digit = follow_not is_digit refl

-- ---- a byte that passes a test which no white space passes begins no white space

solid_of : (t : ℕ → Bool) (b : ℕ) → t 0x20 ≡ false → t 0x09 ≡ false → t 0x0d ≡ false → t 0x0a ≡ false → t 0x3b ≡ false → t b ≡ true
    → goes_on false b ≡ false
unfolding goes_on is_white
solid_of t b sp tab cr lf co h =
    rw (test_not t b 0x20 sp h, test_not t b 0x09 tab h, test_not t b 0x0d cr h, test_not t b 0x0a lf h, test_not t b 0x3b co h)

pub letter_solid : (b : ℕ) → is_letter b ≡ true → goes_on false b ≡ false
unfolding is_letter
letter_solid b h = solid_of is_letter b refl refl refl refl refl h

pub digit_solid : (b : ℕ) → is_digit b ≡ true → goes_on false b ≡ false
unfolding is_digit
digit_solid b h = solid_of is_digit b refl refl refl refl refl h

pub safe_solid : (b : ℕ) → in_class SafeByte b ≡ true → goes_on false b ≡ false
unfolding in_class is_safe is_letter is_digit
safe_solid b h = solid_of (in_class SafeByte) b refl refl refl refl refl h

pub path_solid : (b : ℕ) → in_class NameByte b ≡ true → goes_on false b ≡ false
unfolding in_class is_name is_word is_letter is_digit
path_solid b h = solid_of (in_class NameByte) b refl refl refl refl refl h

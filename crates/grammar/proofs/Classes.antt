-- The characters of the grammar are those that reading tests for: Annex B's lists of marks against the ranges of the definition.
use Prim.Native.Nat.{ℕ, zero, suc, ◌<◌}
use mathlib.Core.Path.{◌≡◌, refl, sym, ◌∙◌}
use mathlib.Core.Logic.{◌⊎◌, inl, inr}
use mathlib.Core.Bool.{Bool, true, false, ◌&&◌, ◌||◌, beq, false≢true}
use mathlib.Core.List.{List, [], ◌∷◌}
use lib.Dec.{leb, ltb, eqb}
use borrow.Author.Tests.{leb-true, ltb-true, eqb-true, le-leb, ne_eqb}
use native.Mathlib.Omega.{arith}
use native.Mathlib.Decide.{dec_lt}
use Rattle.base.specs.Pick.{pick}
use Rattle.base.specs.Lists.{every, has}
use Rattle.base.specs.Bytes.{text}
use Rattle.megaco.specs.Bytes.{is_letter, is_digit, is_white, is_comment, is_word, is_name, is_safe, is_rest, is_quoted, is_domain, in_class}
use Rattle.megaco.specs.White.{goes_on}
use Rattle.protocol.specs.Types.{WordByte, NameByte, SafeByte, QuotedByte, DomainByte}
use Rattle.grammar.specs.Characters.{ALPHA, upper, lower, DIGIT, digit, AlphaDigitOr, or_alpha, or_digit, or_mark, SafeChar, RestChar, rest_mark, SP, HTAB, QuotedChar, quoted_safe, quoted_rest, quoted_wsp, CommentChar, comment_char, comment_quote}

-- a test that tells the characters of a kind
pub record Tests (X : ℕ → Type 0) (t : ℕ → Bool) : Type 0 where
  pub passes : (b : ℕ) → X b → t b ≡ true
  pub tells : (b : ℕ) → t b ≡ true → X b
  pub ends : t 0 ≡ false

-- ---- tests joined by && and ||

pub or_true : (x y : Bool) → x || y ≡ true → (x ≡ true) ⊎ (y ≡ true)
or_true true y e = inl refl
or_true false y e = inr e

pub or_left : (x y : Bool) → x ≡ true → x || y ≡ true
or_left x y e = rw e

pub or_right : (x y : Bool) → y ≡ true → x || y ≡ true
or_right true y e = refl
or_right false y e = e

pub or_only : (x y : Bool) → x || y ≡ true → y ≡ false → x ≡ true
or_only true y e f = refl
or_only false y e f = absurd (false≢true (sym f ∙ e))

pub and_both : (x y : Bool) → x ≡ true → y ≡ true → x && y ≡ true
and_both x y e f = rw (e, f)

pub and_no : (x y : Bool) → y ≡ false → x && y ≡ false
and_no true y e = e
and_no false y e = refl

pub and_parts : (x y : Bool) → x && y ≡ true → (x ≡ true) × (y ≡ true)
and_parts true y e = (refl, e)
and_parts false y e = absurd (false≢true e)

-- a byte that passes a test is none that does not
pub test_not : (t : ℕ → Bool) (b m : ℕ) → t m ≡ false → t b ≡ true → eqb b m ≡ false
test_not t b m f h = ne_eqb b m (λ e. false≢true (sym f ∙ rw e at h))

-- ---- letters and digits

pub letter_passes : (b : ℕ) → ALPHA b → is_letter b ≡ true
unfolding is_letter
letter_passes b (upper h k) = or_left (leb 0x41 b && leb b 0x5a) _ (and_both _ _ (le-leb _ _ h) (le-leb _ _ k))
letter_passes b (lower h k) = or_right (leb 0x41 b && leb b 0x5a) _ (and_both _ _ (le-leb _ _ h) (le-leb _ _ k))

pub letter_tells : (b : ℕ) → is_letter b ≡ true → ALPHA b
unfolding is_letter
letter_tells b e = go (or_true _ _ e)
  where
    go : (leb 0x41 b && leb b 0x5a ≡ true) ⊎ (leb 0x61 b && leb b 0x7a ≡ true) → ALPHA b
    go (inl h) = let p = and_parts _ _ h in upper (leb-true _ _ p.0) (leb-true _ _ p.1)
    go (inr h) = let p = and_parts _ _ h in lower (leb-true _ _ p.0) (leb-true _ _ p.1)

pub digit_tests : Tests DIGIT is_digit
unfolding is_digit
digit_tests = record { passes = is; tells = so; ends = refl }
  where
    is : (b : ℕ) → DIGIT b → leb 0x30 b && leb b 0x39 ≡ true
    is b (digit h k) = and_both _ _ (le-leb _ _ h) (le-leb _ _ k)

    so : (b : ℕ) → leb 0x30 b && leb b 0x39 ≡ true → DIGIT b
    so b e = let p = and_parts _ _ e in digit (leb-true _ _ p.0) (leb-true _ _ p.1)

-- ---- two tests that agree on every byte under 128, and that no other byte passes

abbrev Low : (ℕ → Bool) → Type 0
Low t = (b : ℕ) → t b ≡ true → b < 128

infixl 30 ◌or◌
◌or◌ : {x y : Bool} {b : ℕ} → (x ≡ true → b < 128) → (y ≡ true → b < 128) → x || y ≡ true → b < 128
◌or◌ {x = true} f g e = f refl
◌or◌ {x = false} f g e = g e

mark : (b k : ℕ) → k < 128 → eqb b k ≡ true → b < 128
mark b k h e = omega (arith, eqb-true b k e)

range : (b j k : ℕ) → k < 128 → leb j b && leb b k ≡ true → b < 128
range b j k h e = let p = and_parts (leb j b) _ e in omega (arith, leb-true b k p.1)

abbrev agree_below : ℕ → (ℕ → Bool) → (ℕ → Bool) → Bool
agree_below zero t u = true
agree_below (suc n) t u = beq (t n) (u n) && agree_below n t u

beq_same : (x y : Bool) → beq x y ≡ true → x ≡ y
beq_same true true e = refl
beq_same true false e = absurd (false≢true e)
beq_same false true e = absurd (false≢true e)
beq_same false false e = refl

module _ (t u : ℕ → Bool) (lowT : Low t) (lowU : Low u) where
  agree_below_lem : (n b : ℕ) → b < n → agree_below n t u ≡ true → t b ≡ u b
  agree_below_lem zero b h e = absurd (omega arith)
  agree_below_lem (suc n) b h e =
      let p = and_parts _ _ e in
      elim (dec_lt b n) [ yes k ↦ agree_below_lem n b k p.1 | no k ↦ rw (here k) (beq_same _ _ p.0) ]
    where
      here : ¬ (b < n) → b ≡ n
      here k = omega arith

  agree : agree_below 128 t u ≡ true → (b : ℕ) → t b ≡ u b
  agree e b = elim (dec_lt b 128) [ yes k ↦ agree_below_lem 128 b k e | no k ↦ above (t b) (u b) (λ h. k (lowT b h)) (λ h. k (lowU b h)) ]
    where
      above : (x y : Bool) → ¬ (x ≡ true) → ¬ (y ≡ true) → x ≡ y
      above true y f g = absurd (f refl)
      above false true f g = absurd (g refl)
      above false false f g = refl

-- ---- classes of Annex B

-- ALPHA / DIGIT / one of some marks, as a test
abbrev alpha_digit_or : List ℕ → ℕ → Bool
alpha_digit_or marks b = is_letter b || is_digit b || has b marks

low_letter : Low is_letter
unfolding is_letter
low_letter b = range b 0x41 0x5a (omega arith) or range b 0x61 0x7a (omega arith)

low_digit : Low is_digit
unfolding is_digit
low_digit b = range b 0x30 0x39 (omega arith)

low_has : (marks : List ℕ) (b : ℕ) → every (λ x. ltb x 128) marks ≡ true → has b marks ≡ true → b < 128
unfolding every has pick
low_has [] b l e = absurd (false≢true e)
low_has (x ∷ xs) b l e = go (ltb x 128) (eqb x b) refl refl (low_has xs b)
  where
    go : (p q : Bool) → ltb x 128 ≡ p → eqb x b ≡ q → (every (λ x. ltb x 128) xs ≡ true → has b xs ≡ true → b < 128) → b < 128
    go true true f g r = omega (arith, ltb-true x 128 f, eqb-true x b g)
    go true false f g r = r (rw f at l) (rw g at e)
    go false q f g r = absurd (false≢true (rw f at l))

module _ (marks : List ℕ) (few : every (λ x. ltb x 128) marks ≡ true) (t : ℕ → Bool) (low : Low t) (ends : t 0 ≡ false) where
  marked : agree_below 128 t (alpha_digit_or marks) ≡ true → Tests (AlphaDigitOr marks) t
  marked e = record { passes = is; tells = λ b h. so b (or_true _ _ (sym (same b) ∙ h)); ends = ends }
    where
      same : (b : ℕ) → t b ≡ alpha_digit_or marks b
      same = agree t (alpha_digit_or marks) low (λ b. low_letter b or low_digit b or low_has marks b few) e

      is : (b : ℕ) → AlphaDigitOr marks b → t b ≡ true
      is b (or_alpha h) = rw (same b, letter_passes b h)
      is b (or_digit h) = rw (same b) (or_left _ _ (or_right (is_letter b) _ (digit_tests.passes b h)))
      is b (or_mark h) = rw (same b) (or_right (is_letter b || is_digit b) _ h)

      letter_or_digit : (b : ℕ) → (is_letter b ≡ true) ⊎ (is_digit b ≡ true) → AlphaDigitOr marks b
      letter_or_digit b (inl h) = or_alpha (letter_tells b h)
      letter_or_digit b (inr h) = or_digit (digit_tests.tells b h)

      so : (b : ℕ) → (is_letter b || is_digit b ≡ true) ⊎ (has b marks ≡ true) → AlphaDigitOr marks b
      so b (inl h) = letter_or_digit b (or_true _ _ h)
      so b (inr h) = or_mark h

low_word : Low is_word
unfolding is_word
low_word b = low_letter b or low_digit b or mark b 0x5f (omega arith)

low_safe : Low is_safe
unfolding is_safe
low_safe b =
    low_letter b or low_digit b or mark b 0x21 (omega arith) or range b 0x24 0x2b (omega arith) or range b 0x2d 0x2f (omega arith)
    or range b 0x3f 0x40 (omega arith) or mark b 0x5c (omega arith) or range b 0x5e 0x60 (omega arith) or mark b 0x7c (omega arith) or mark b 0x7e
    (omega arith)

low_rest : Low is_rest
unfolding is_rest
low_rest b =
    mark b 0x23 (omega arith) or mark b 0x2c (omega arith) or range b 0x3a 0x3e (omega arith) or mark b 0x5b (omega arith)
    or mark b 0x5d (omega arith) or mark b 0x7b (omega arith) or mark b 0x7d (omega arith)

-- NAME's (ALPHA / DIGIT / "_")
pub word_tests : Tests (AlphaDigitOr (text "_")) (in_class WordByte)
unfolding in_class is_word is_letter is_digit has every pick
word_tests = marked (text "_") refl is_word low_word refl refl

-- pathNAME's ("/" / "*"/ ALPHA / DIGIT /"_" / "$" )
pub name_tests : Tests (AlphaDigitOr (text "/*_$")) (in_class NameByte)
unfolding in_class is_name is_word is_letter is_digit has every pick
name_tests =
    marked (text "/*_$") refl is_name (λ b. low_word b or mark b 0x2f (omega arith) or mark b 0x2a (omega arith) or mark b 0x24
    (omega arith)) refl refl

-- domainName's (ALPHA / DIGIT / "-" / ".")
pub domain_tests : Tests (AlphaDigitOr (text "-.")) (in_class DomainByte)
unfolding in_class is_domain is_letter is_digit has every pick
domain_tests = marked (text "-.") refl is_domain (λ b. low_letter b or low_digit b or mark b 0x2d (omega arith) or mark b 0x2e (omega arith)) refl refl

-- domainName's (ALPHA / DIGIT)
pub letter_digit_tests : Tests (AlphaDigitOr []) (λ b. is_letter b || is_digit b)
unfolding is_letter is_digit has every pick
letter_digit_tests = marked [] refl (λ b. is_letter b || is_digit b) (λ b. low_letter b or low_digit b) refl refl

-- SafeChar
pub safe_tests : Tests SafeChar (in_class SafeByte)
unfolding in_class is_safe is_letter is_digit has every pick
safe_tests = marked (text "+-&!_/'?@^`~*$\\()%|.") refl is_safe low_safe refl refl

-- RestChar
pub rest_tests : Tests RestChar is_rest
unfolding is_rest has every pick
rest_tests = record { passes = is; tells = λ b h. rest_mark (sym (same b) ∙ h); ends = refl }
  where
    same : (b : ℕ) → is_rest b ≡ has b (text ";[]{}:,#<>=")
    same = agree is_rest (λ b. has b (text ";[]{}:,#<>=")) low_rest (λ b. low_has (text ";[]{}:,#<>=") b refl) refl

    is : (b : ℕ) → RestChar b → is_rest b ≡ true
    is b (rest_mark h) = same b ∙ h

-- SafeChar / RestChar / WSP
pub quoted_tests : Tests QuotedChar (in_class QuotedByte)
unfolding in_class is_quoted is_safe is_rest is_letter is_digit
quoted_tests = record { passes = is; tells = so; ends = refl }
  where
    is : (b : ℕ) → QuotedChar b → is_safe b || is_rest b || eqb b 0x20 || eqb b 0x09 ≡ true
    is b (quoted_safe h) = rw (safe_tests.passes b h)
    is b (quoted_rest h) = or_left _ (eqb b 0x09) (or_left _ (eqb b 0x20) (or_right (is_safe b) _ (rest_tests.passes b h)))
    is b (quoted_wsp SP) = refl
    is b (quoted_wsp HTAB) = refl

    end : (b : ℕ) → (is_safe b ≡ true) ⊎ (is_rest b ≡ true) → QuotedChar b
    end b (inl h) = quoted_safe (safe_tests.tells b h)
    end b (inr h) = quoted_rest (rest_tests.tells b h)

    space : (b : ℕ) → (is_safe b || is_rest b ≡ true) ⊎ (eqb b 0x20 ≡ true) → QuotedChar b
    space b (inl h) = end b (or_true _ _ h)
    space b (inr h) = rw (eqb-true b 0x20 h) (quoted_wsp SP)

    tab : (b : ℕ) → (is_safe b || is_rest b || eqb b 0x20 ≡ true) ⊎ (eqb b 0x09 ≡ true) → QuotedChar b
    tab b (inl h) = space b (or_true _ _ h)
    tab b (inr h) = rw (eqb-true b 0x09 h) (quoted_wsp HTAB)

    so : (b : ℕ) → is_safe b || is_rest b || eqb b 0x20 || eqb b 0x09 ≡ true → QuotedChar b
    so b h = tab b (or_true _ _ h)

-- SafeChar / RestChar / WSP / %x22 is "tab and 0x20..0x7E"
pub comment_tests : Tests CommentChar is_comment
unfolding is_comment is_safe is_rest is_quoted is_letter is_digit in_class
comment_tests = record { passes = is; tells = λ b h. so b (or_true _ _ (sym (same b) ∙ h)); ends = refl }
  where
    same : (b : ℕ) → is_comment b ≡ is_quoted b || eqb b 0x22
    same = agree is_comment (λ b. is_quoted b || eqb b 0x22) (λ b. mark b 0x09 (omega arith) or range b 0x20 0x7e (omega arith))
        (λ b. low_safe b or low_rest b or mark b 0x20 (omega arith) or mark b 0x09 (omega arith) or mark b 0x22 (omega arith)) refl

    is : (b : ℕ) → CommentChar b → is_comment b ≡ true
    is b (comment_char h) = rw (same b, quoted_tests.passes b h)
    is b comment_quote = refl

    so : (b : ℕ) → (is_quoted b ≡ true) ⊎ (eqb b 0x22 ≡ true) → CommentChar b
    so b (inl h) = comment_char (quoted_tests.tells b h)
    so b (inr h) = rw (eqb-true b 0x22 h) comment_quote

-- the bytes that a digit, and white space or a comment, begin with
pub digit_has : (b : ℕ) → is_digit b ≡ has b (text "0123456789")
unfolding is_digit has every pick
digit_has = agree is_digit (λ b. has b (text "0123456789")) low_digit (λ b. low_has (text "0123456789") b refl) refl

pub white_has : (b : ℕ) → goes_on false b ≡ has b (text " \t\r\n;")
unfolding goes_on is_white has every pick
white_has = agree (goes_on false) (λ b. has b (text " \t\r\n;")) low_white (λ b. low_has (text " \t\r\n;") b refl) refl
  where
    low_white : Low (goes_on false)
    low_white b =
        mark b 0x20 (omega arith) or mark b 0x09 (omega arith) or mark b 0x0d (omega arith) or mark b 0x0a (omega arith) or mark b 0x3b (omega arith)

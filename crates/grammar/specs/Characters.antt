-- Characters and keywords of the grammar (Annex B.2 of RFC 3525), each as Annex B writes it.
use Rattle.std.specs.Prelude.{ℕ, ◌≤◌, ◌≡◌, true, false, List, [], ◌∷◌}
use Rattle.base.specs.Lists.{has}
use Rattle.base.specs.Bytes.{text}
use Rattle.megaco.specs.Bytes.{capitals}
use Rattle.megaco.specs.Keywords.{Forms, forms, forms_of}
use Rattle.protocol.specs.Types.{Token}

-- ---- tokens

-- AddToken = ("Add" / "A") and the like: "Keywords .. ignore letter case. Keywords have a long and a short form"
pub data Spelling : Forms → List ℕ → Type 0 where
  long : {l s w : List ℕ} → capitals w ≡ l → Spelling (forms l s) w
  short : {l s w : List ℕ} → capitals w ≡ s → Spelling (forms l s) w

abbrev pub Keyword : Token → List ℕ → Type 0
Keyword k = Spelling (forms_of k)

-- ---- characters

-- ALPHA = %x41-5A / %x61-7A
pub data ALPHA : ℕ → Type 0 where
  upper : {b : ℕ} → 0x41 ≤ b → b ≤ 0x5a → ALPHA b
  lower : {b : ℕ} → 0x61 ≤ b → b ≤ 0x7a → ALPHA b

-- DIGIT = %x30-39
pub data DIGIT : ℕ → Type 0 where
  digit : {b : ℕ} → 0x30 ≤ b → b ≤ 0x39 → DIGIT b

-- ALPHA / DIGIT / one of some marks
pub data AlphaDigitOr (marks : List ℕ) : ℕ → Type 0 where
  or_alpha : {b : ℕ} → ALPHA b → AlphaDigitOr marks b
  or_digit : {b : ℕ} → DIGIT b → AlphaDigitOr marks b
  or_mark : {b : ℕ} → has b marks ≡ true → AlphaDigitOr marks b

-- SafeChar = DIGIT / ALPHA / "+" / "-" / "&" / "!" / "_" / "/" / "'" / "?" / "@" / "^" / "`" / "~" / "*" / "$" / "\" / "(" / ")" / "%" / "|" / "."
abbrev pub SafeChar : ℕ → Type 0
SafeChar = AlphaDigitOr (text "+-&!_/'?@^`~*$\\()%|.")

-- RestChar = ";" / "[" / "]" / "{" / "}" / ":" / "," / "#" / "<" / ">" / "="
pub data RestChar : ℕ → Type 0 where
  rest_mark : {b : ℕ} → has b (text ";[]{}:,#<>=") ≡ true → RestChar b

-- WSP = SP / HTAB
pub data WSP : ℕ → Type 0 where
  SP : WSP 0x20
  HTAB : WSP 0x09

-- SafeChar / RestChar / WSP
pub data QuotedChar : ℕ → Type 0 where
  quoted_safe : {b : ℕ} → SafeChar b → QuotedChar b
  quoted_rest : {b : ℕ} → RestChar b → QuotedChar b
  quoted_wsp : {b : ℕ} → WSP b → QuotedChar b

-- SafeChar / RestChar / WSP / %x22
pub data CommentChar : ℕ → Type 0 where
  comment_char : {b : ℕ} → QuotedChar b → CommentChar b
  comment_quote : CommentChar 0x22

-- *X: any number of characters
pub data Many (X : ℕ → Type 0) : List ℕ → Type 0 where
  no_more : Many X []
  and_then : {b : ℕ} {bs : List ℕ} → X b → Many X bs → Many X (b ∷ bs)

-- a text that begins with none of these bytes
pub data Without (bytes : List ℕ) : List ℕ → Type 0 where
  ended : Without bytes []
  begun : {b : ℕ} {a : List ℕ} → has b bytes ≡ false → Without bytes (b ∷ a)

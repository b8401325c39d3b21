-- Words, numbers, values, names, the message identifier (document 01, 'The text'). Each reader finds the place after the part at a position.
use Rattle.std.specs.Prelude.{ℕ, ◌+◌, ◌*◌, ◌-◌, Bool, false, not, ◌&&◌, ◌||◌, List, [], ◌∷◌, length, get_or, drop, ltb, leb, eqb, Some, None}
use Rattle.base.specs.Pick.{pick}
use Rattle.base.specs.Lists.{is_at, part}
use Rattle.megaco.specs.Bytes.{right_brace, colon, dot, quote, star, dollar, is_letter, is_digit, in_class}
use Rattle.megaco.specs.White.{after, white_at}
use Rattle.megaco.specs.Keywords.{spells}
use Rattle.megaco.specs.declared.Token.{Token}
use Rattle.megaco.specs.Results.{Parsed, Number, number}
use Rattle.megaco.specs.declared.Class.{Class}
use Rattle.megaco.specs.declared.Class.TheVariants.{WordByte, NameByte, SafeByte, QuotedByte, DomainByte}

unfoldable pub mark_at : ℕ → List ℕ → ℕ → Parsed
mark_at b s at = pick (is_at s at b) (Some (at + 1)) None

-- one given byte, and white space after it
unfoldable pub sign_at : ℕ → List ℕ → ℕ → Parsed
sign_at b s at = after (mark_at b s at) (white_at s)

unfoldable pub letter_at : List ℕ → ℕ → Bool
letter_at s at = is_letter (get_or s at 0)

-- the end of the bytes of a class that stand here
unfoldable pub row_from : Class → List ℕ → ℕ → ℕ
row_from k [] n = n
row_from k (b ∷ t) n = let r = row_from k t (n + 1) in pick (in_class k b) r n

unfoldable pub row_at : Class → List ℕ → ℕ → ℕ
row_at k s at = row_from k (drop at s) at

-- a part from a place to another, of at most 64 bytes
unfoldable pub up_to64 : ℕ → ℕ → Parsed
up_to64 a e = pick (ltb 64 (e - a)) None (Some e)

-- "Word: a letter, then up to 63 letters, digits, `_`"
unfoldable pub word_at : List ℕ → ℕ → Parsed
word_at s at = let e = row_at WordByte s at in pick (letter_at s at) (up_to64 at e) None

unfoldable pub keyword_at : Token → List ℕ → ℕ → Parsed
keyword_at k s at = after (word_at s at) (λ e. pick (spells k (part s at e)) (Some e) None)

-- "optional `*`, a word, then letters, digits, `/` `*` `_` `$`, 64 bytes in all"
unfoldable pub path_start : List ℕ → ℕ → ℕ
path_start s at = pick (is_at s at star) (at + 1) at

unfoldable pub path_name_at : List ℕ → ℕ → Parsed
path_name_at s at = let e = row_at NameByte s (path_start s at) in pick (letter_at s (path_start s at)) (up_to64 at e) None

-- "Termination: `*`, `$`, or a path name"
unfoldable pub termination_at : List ℕ → ℕ → Parsed
termination_at s at = pick (letter_at s (path_start s at)) (path_name_at s at) (pick (is_at s at star || is_at s at dollar) (Some (at + 1)) None)

-- ---- numbers
-- the number that ends at n, if it has a digit
unfoldable pub number_end : ℕ → ℕ → ℕ → Number
number_end at n v = pick (ltb at n) (number v n) None

-- from position n, with the rest of the message and the value so far
unfoldable pub number_from : ℕ → ℕ → ℕ → List ℕ → ℕ → ℕ → Number
number_from at most limit [] n v = number_end at n v
number_from at most limit (b ∷ t) n v =
    let w = v * 10 + (b - 48) in
    let r = number_from at most limit t (n + 1) w in
    pick (is_digit b) (pick (leb most (n - at)) None (pick (ltb limit w) None r)) (number_end at n v)

-- 1 to `most` digits, at most `limit`; leading zeros count as digits
unfoldable pub number_at : List ℕ → ℕ → ℕ → ℕ → Number
number_at s at most limit = number_from at most limit (drop at s) at 0

-- a number that is not below another
unfoldable pub at_least : ℕ → Number → Number
at_least low (Some (v, p)) = pick (leb low v) (number v p) None
at_least low None = None

unfoldable pub after_number : Number → (ℕ → Parsed) → Parsed
after_number (Some (v, p)) f = f p
after_number None f = None

-- ---- values
-- "a quoted string with 0 to 64 of SafeChar, RestChar, space and tab inside"
unfoldable pub quoted_at : List ℕ → ℕ → Parsed
quoted_at s at = let e = row_at QuotedByte s (at + 1) in after (up_to64 (at + 1) e) (mark_at quote s)

-- "1 to 64 SafeChar"
unfoldable pub plain_at : List ℕ → ℕ → Parsed
plain_at s at = let e = row_at SafeByte s at in pick (ltb at e) (up_to64 at e) None

unfoldable pub value_at : List ℕ → ℕ → Parsed
value_at s at = pick (is_at s at quote) (quoted_at s at) (plain_at s at)

-- ---- the text in the braces of Local or Remote (document 02, CR 11): "up to the first `}` that has no backslash before it, byte 0 being a fault"
-- from position n, with the rest of the message, told whether a backslash stands before it
unfoldable pub octets_from : List ℕ → ℕ → Bool → Parsed
octets_from [] n escaped = None
octets_from (b ∷ t) n escaped =
    let r = octets_from t (n + 1) (eqb b 0x5c) in
    pick (eqb b 0) None (pick (eqb b right_brace && not escaped) (Some n) r)

unfoldable pub octets_at : List ℕ → ℕ → Parsed
octets_at s at = octets_from (drop at s) at false

-- ---- the message identifier: an address or a domain name with an optional port, or a path name
-- "optional `:` and port 0..65535 (1 to 5 digits)"
unfoldable pub port_at : List ℕ → ℕ → Parsed
port_at s at = pick (is_at s at colon) (after_number (number_at s (at + 1) 5 65535) Some) (Some at)

-- one of the four numbers, and the byte after it
unfoldable pub octet_at : ℕ → List ℕ → ℕ → Parsed
octet_at b s at = after_number (number_at s at 3 255) (mark_at b s)

-- "`[`four numbers 0..255 joined by dots`]`"
unfoldable pub address_at : List ℕ → ℕ → Parsed
address_at s at = after (octet_at dot s (at + 1)) (λ p. after (octet_at dot s p) (λ q. after (octet_at dot s q) (octet_at 0x5d s)))

-- "`<`letter or digit, then up to 63 letters, digits, `-`, `.``>`"
unfoldable pub domain_at : List ℕ → ℕ → Parsed
domain_at s at =
    let b = get_or s (at + 1) 0 in
    let e = row_at DomainByte s (at + 1) in
    pick (is_letter b || is_digit b) (after (up_to64 (at + 1) e) (mark_at 0x3e s)) None

unfoldable pub m_id_at : List ℕ → ℕ → Parsed
m_id_at s at = pick (is_at s at 0x5b) (after (address_at s at) (port_at s)) (pick (is_at s at 0x3c) (after (domain_at s at) (port_at s)) (path_name_at s at))

-- the gateway's own mId: the whole slice, at most 64 bytes
unfoldable pub whole_at : Parsed → ℕ → Bool
whole_at r n = elim r [ Some p ↦ eqb p n | None ↦ false ]

unfoldable pub is_mid : List ℕ → Bool
is_mid own = leb (length own) 64 && whole_at (m_id_at own 0) (length own)

-- Our SDP subset (document 02, CR 11; RFC 2327): what a text in the braces of Local or Remote says.
use Rattle.std.specs.Prelude.{ℕ, ◌+◌, ◌*◌, Bool, true, false, ◌&&◌, ◌||◌, not, List, [], ◌∷◌, length, drop, eqb, leb, Some, None}
use Rattle.base.specs.Pick.{pick}
use Rattle.base.specs.Bytes.{text}
use Rattle.base.specs.Lists.{every, same, is_at}
use Rattle.megaco.specs.Bytes.{equal, is_line_end}
use Rattle.megaco.specs.Tokens.{letter_at, number_at}
use Rattle.megaco.specs.Results.{Number, number}
use Rattle.megaco.specs.declared.SdpLine.{SdpLine}
use Rattle.megaco.specs.declared.SdpLine.TheVariants.{Skipped, Version, Connection, Audio, Strange}
use Rattle.megaco.specs.declared.SdpStage.{SdpStage}
use Rattle.megaco.specs.declared.SdpStage.TheVariants.{NoLine, AfterVersion, AfterConnection, AfterAudio, Broken}
use Rattle.megaco.specs.declared.SdpText.{SdpText}
use Rattle.megaco.specs.declared.SdpText.TheVariants.{EmptyText, Described, NotInSubset}

-- ---- lines
-- "a line ends at CR, LF, both or the text's end": at each CR and each LF, for the empty line between the two of CR LF is skipped. (Crate
-- `sdp_grammar` has the grammar with CR LF as one end, and proves that it says the same.)
unfoldable pub line_length : List ℕ → ℕ
line_length [] = 0
line_length (b ∷ t) = let r = line_length t + 1 in pick (is_line_end b) 0 r

unfoldable pub line_end : List ℕ → ℕ → ℕ
line_end s at = at + line_length (drop at s)

unfoldable pub on_first : ℕ → List (List ℕ) → List (List ℕ)
on_first b [] = (b ∷ []) ∷ []
on_first b (l ∷ ls) = (b ∷ l) ∷ ls

unfoldable pub lines_of : List ℕ → List (List ℕ)
lines_of [] = []
lines_of (b ∷ t) = let r = lines_of t in pick (is_line_end b) ([] ∷ r) (on_first b r)

-- ---- one line

-- the first bytes of a list are these
unfoldable pub begins : List ℕ → List ℕ → Bool
begins [] s = true
begins (x ∷ xs) [] = false
begins (x ∷ xs) (b ∷ s) = let r = begins xs s in pick (eqb b x) r false

-- "letter case counting": these bytes stand here
unfoldable pub given_at : List ℕ → List ℕ → ℕ → Bool
given_at form s at = begins form (drop at s)

-- a number, then given bytes, then another number: the first counts k times
unfoldable pub plus : ℕ → Number → Number
plus a (Some (w, e)) = number (a + w) e
plus a None = None

unfoldable pub joined : ℕ → Number → List ℕ → List ℕ → (ℕ → Number) → Number
joined k (Some (v, p)) form s next = pick (given_at form s p) (plus (v * k) (next (p + length form))) None
joined k None form s next = None

-- "an mId's dotted numbers", "first number highest"
unfoldable pub dotted_part_at : List ℕ → ℕ → Number
dotted_part_at s at = number_at s at 3 255

unfoldable pub dotted_pair_at : List ℕ → ℕ → Number
dotted_pair_at s at = joined 256 (dotted_part_at s at) (text ".") s (dotted_part_at s)

unfoldable pub dotted_at : List ℕ → ℕ → Number
dotted_at s at = joined 65536 (dotted_pair_at s at) (text ".") s (dotted_pair_at s)

-- a number that ends the line
unfoldable pub ending : Number → ℕ → (ℕ → SdpLine) → SdpLine
ending (Some (v, e)) n f = pick (leb n e) (f v) Strange
ending None n f = Strange

-- "`c=IN IP4` and an mId's dotted numbers"
unfoldable pub connection_of : List ℕ → SdpLine
connection_of l = pick (given_at (text "c=IN IP4 ") l 0) (ending (dotted_at l 9) (length l) Connection) Strange

-- "`m=audio` port 0..65535 (1 to 5 digits) `RTP/AVP` and one payload type 0..127 (1 to 3), single spaces"
unfoldable pub payload_of : List ℕ → Number → SdpLine
payload_of l (Some (p, q)) = pick (given_at (text " RTP/AVP ") l q) (ending (number_at l (q + 9) 3 127) (length l) (Audio p)) Strange
payload_of l None = Strange

unfoldable pub audio_of : List ℕ → SdpLine
audio_of l = pick (given_at (text "m=audio ") l 0) (payload_of l (number_at l 8 5 65535)) Strange

-- "lines empty or of spaces and tabs"
unfoldable pub is_blank : ℕ → Bool
is_blank b = eqb b 0x20 || eqb b 0x09

-- "lines of another letter and `=`"
unfoldable pub another_letter : List ℕ → Bool
another_letter l = letter_at l 0 && not (is_at l 0 0x76) && not (is_at l 0 0x63) && not (is_at l 0 0x6d) && is_at l 1 equal

unfoldable pub is_skipped : List ℕ → Bool
is_skipped l = every is_blank l || another_letter l

unfoldable pub sdp_line_of : List ℕ → SdpLine
sdp_line_of l =
    pick (is_skipped l) Skipped
    (pick (same l (text "v=0")) Version
    (pick (is_at l 0 0x63) (connection_of l) (audio_of l)))

-- ---- the lines of a text: "each once and in that order"
abbrev pub sdp_step : SdpStage → SdpLine → SdpStage
sdp_step x Skipped = x
sdp_step NoLine Version = AfterVersion
sdp_step NoLine (Connection a) = Broken
sdp_step NoLine (Audio p k) = Broken
sdp_step NoLine Strange = Broken
sdp_step AfterVersion Version = Broken
sdp_step AfterVersion (Connection a) = AfterConnection a
sdp_step AfterVersion (Audio p k) = Broken
sdp_step AfterVersion Strange = Broken
sdp_step (AfterConnection a) Version = Broken
sdp_step (AfterConnection a) (Connection b) = Broken
sdp_step (AfterConnection a) (Audio p k) = AfterAudio a p k
sdp_step (AfterConnection a) Strange = Broken
sdp_step (AfterAudio a p k) Version = Broken
sdp_step (AfterAudio a p k) (Connection b) = Broken
sdp_step (AfterAudio a p k) (Audio q l) = Broken
sdp_step (AfterAudio a p k) Strange = Broken
sdp_step Broken Version = Broken
sdp_step Broken (Connection a) = Broken
sdp_step Broken (Audio p k) = Broken
sdp_step Broken Strange = Broken

unfoldable pub stage_after : SdpStage → List (List ℕ) → SdpStage
stage_after x [] = x
stage_after x (l ∷ ls) = stage_after (sdp_step x (sdp_line_of l)) ls

abbrev pub sdp_finish : SdpStage → SdpText
sdp_finish NoLine = NotInSubset
sdp_finish AfterVersion = NotInSubset
sdp_finish (AfterConnection a) = NotInSubset
sdp_finish (AfterAudio a p k) = Described a p k
sdp_finish Broken = NotInSubset

-- "empty text releases it"
unfoldable pub read_sdp : List ℕ → SdpText
read_sdp s = pick (eqb (length s) 0) EmptyText (sdp_finish (stage_after NoLine (lines_of s)))

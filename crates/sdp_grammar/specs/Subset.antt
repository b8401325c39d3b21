-- Our SDP subset as a grammar (document 02, CR 11; RFC 2327), in the manner of crate `grammar`.
use Rattle.std.specs.Prelude.{ℕ, ◌+◌, ◌*◌, ◌≡◌, false, List, [], ◌∷◌, ◌++◌}
use Rattle.base.specs.Lists.{has}
use Rattle.base.specs.Bytes.{text}
use Rattle.megaco.specs.Bytes.{equal, dot, is_line_end}
use Rattle.grammar.specs.Characters.{ALPHA, WSP, Many}
use Rattle.grammar.specs.Grammar.{EOL, V4hex, UINT, UINT16}
use Rattle.protocol.specs.Types.{SdpLine, Skipped, Version, Connection, Audio, Strange}

-- a byte within a line
pub data InLine : ℕ → Type 0 where
  in_line : {b : ℕ} → is_line_end b ≡ false → InLine b

-- a line without its end, and what it says
pub data sdp_line : List ℕ → SdpLine → Type 0 where
  -- "lines empty or of spaces and tabs"
  blank_line : {a : List ℕ} → Many WSP a → sdp_line a Skipped
  -- "lines of another letter and `=`"
  other_line : {b : ℕ} {bs : List ℕ} → ALPHA b → has b (text "vcm") ≡ false → Many InLine bs → sdp_line (b ∷ equal ∷ bs) Skipped
  version_line : sdp_line (text "v=0") Version
  -- "`c=IN IP4` and an mId's dotted numbers", "first number highest"
  connection_line : {a b c d : List ℕ} {i j k l : ℕ} → V4hex a i → V4hex b j → V4hex c k → V4hex d l
      → sdp_line (text "c=IN IP4 " ++ (a ++ (dot ∷ b ++ (dot ∷ c ++ dot ∷ d)))) (Connection (i * 0x1000000 + j * 0x10000 + k * 0x100 + l))
  -- "`m=audio` port 0..65535 (1 to 5 digits) `RTP/AVP` and one payload type 0..127 (1 to 3), single spaces"
  media_line : {a b : List ℕ} {p k : ℕ} → UINT16 a p → UINT 3 127 b k → sdp_line (text "m=audio " ++ (a ++ (text " RTP/AVP " ++ b))) (Audio p k)

-- "a line ends at CR, LF, both or the text's end"
pub data sdp_lines : List ℕ → List SdpLine → Type 0 where
  no_line : sdp_lines [] []
  last_line : {a : List ℕ} {x : SdpLine} → sdp_line a x → sdp_lines a (x ∷ [])
  next_line : {a b c : List ℕ} {x : SdpLine} {xs : List SdpLine} → sdp_line a x → EOL b → sdp_lines c xs → sdp_lines (a ++ b ++ c) (x ∷ xs)

-- those that are not skipped
unfoldable pub asked : List SdpLine → List SdpLine
asked [] = []
asked (Skipped ∷ xs) = asked xs
asked (Version ∷ xs) = Version ∷ asked xs
asked (Connection a ∷ xs) = Connection a ∷ asked xs
asked (Audio p k ∷ xs) = Audio p k ∷ asked xs
asked (Strange ∷ xs) = Strange ∷ asked xs

-- "each once and in that order"
pub data Subset : List ℕ → ℕ → ℕ → ℕ → Type 0 where
  session : {s : List ℕ} {xs : List SdpLine} {a p k : ℕ} → sdp_lines s xs → asked xs ≡ (Version ∷ Connection a ∷ Audio p k ∷ []) → Subset s a p k

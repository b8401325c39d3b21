-- The grammar of a message: Annex B.2 of RFC 3525, profiled by document 01 ('The text').
--
-- A rule is a relation over the bytes that it derives, under Annex B's name and with a constructor for each alternative. A rule that leaves
-- something in the tree has that beside the bytes. ABNF's `X Y` is `x ++ y`, `*X` is `Many X`, `X *(COMMA X)` is `Commas X`. Annex B's words
-- stand before each rule in ABNF, document 01's between quotes. A rule stands behind those that it uses: Annex B from its end to its start.
use Rattle.std.specs.Prelude.{ℕ, zero, suc, ◌+◌, ◌*◌, ◌-◌, ◌<◌, ◌≤◌, ◌≡◌, Bool, true, false, List, [], ◌∷◌, ◌++◌, length, eqb}
use Rattle.std.proofs.Math.Option.{Option, none, some}
use Rattle.base.specs.Bytes.{text}
use Rattle.megaco.specs.Bytes.{equal, comma, left_brace, right_brace, slash, colon, dot, quote, semicolon, dash, dollar, star, capital, capitals}
use Rattle.grammar.specs.Characters.{Keyword, ALPHA, DIGIT, AlphaDigitOr, SafeChar, WSP, QuotedChar, CommentChar, Many, Without}
use Rattle.megaco.specs.Tree.{Value, plain, quoted, octets, ItemOf, item, Item, Items, Command, command, Action, action, Transaction, transaction, Triple, triple, Property, priority, emergency, topology, Part, request, acknowledge}
use Rattle.protocol.specs.Types.{Token, AuditToken, MediaToken, LocalToken, RemoteToken, MegacopToken, TransToken, CtxToken, PriorityToken, EmergencyToken, TopologyToken, IsolateToken, OnewayToken, BothwayToken, Context, Null, Numbered, Choose, All, Direction, Isolate, Oneway, Bothway, ResponseAckToken, Ack}

-- ---- white space

-- EOL = (CR [LF] / LF )
pub data EOL : List ℕ → Type 0 where
  CR : EOL (0x0d ∷ [])
  CRLF : EOL (0x0d ∷ 0x0a ∷ [])
  LF : EOL (0x0a ∷ [])

-- COMMENT = ";" *(SafeChar/ RestChar / WSP / %x22) EOL: "comments from `;` through a line end, holding tab and 0x20..0x7E"
pub data COMMENT : List ℕ → Type 0 where
  comment : {a b : List ℕ} → Many CommentChar a → EOL b → COMMENT (semicolon ∷ a ++ b)

-- WSP / COMMENT / EOL
pub data Blank : List ℕ → Type 0 where
  blank_wsp : {b : ℕ} → WSP b → Blank (b ∷ [])
  blank_comment : {a : List ℕ} → COMMENT a → Blank a
  blank_eol : {a : List ℕ} → EOL a → Blank a

-- LWSP = *( WSP / COMMENT / EOL )
pub data LWSP : List ℕ → Type 0 where
  no_lwsp : LWSP []
  more_lwsp : {a b : List ℕ} → Blank a → LWSP b → LWSP (a ++ b)

-- SEP = ( WSP / EOL / COMMENT) LWSP
pub data SEP : List ℕ → Type 0 where
  sep : {a b : List ℕ} → Blank a → LWSP b → SEP (a ++ b)

-- a sign with white space on both sides
pub data Around (sign : ℕ) : List ℕ → Type 0 where
  around : {a b : List ℕ} → LWSP a → LWSP b → Around sign (a ++ sign ∷ b)

-- EQUAL = LWSP %x3D LWSP, LBRKT = LWSP %x7B LWSP, RBRKT = LWSP %x7D LWSP, COMMA = LWSP %x2C LWSP
abbrev pub EQUAL : List ℕ → Type 0
EQUAL = Around equal

abbrev pub LBRKT : List ℕ → Type 0
LBRKT = Around left_brace

abbrev pub RBRKT : List ℕ → Type 0
RBRKT = Around right_brace

abbrev pub COMMA : List ℕ → Type 0
COMMA = Around comma

-- X *(COMMA X)
pub data Commas {A : Type 0} (X : List ℕ → A → Type 0) : List ℕ → List A → Type 0 where
  single : {a : List ℕ} {x : A} → X a x → Commas X a (x ∷ [])
  joined : {a b c : List ℕ} {x : A} {xs : List A} → X a x → COMMA b → Commas X c xs → Commas X (a ++ b ++ c) (x ∷ xs)

-- document 01's limit on a list
pub data AtMost {A : Type 0} (n : ℕ) (X : List ℕ → List A → Type 0) : List ℕ → List A → Type 0 where
  at_most : {a : List ℕ} {xs : List A} → X a xs → length xs ≤ n → AtMost n X a xs

-- ---- names, values, numbers

-- VALUE = quotedString / 1*(SafeChar): "Value: 1 to 64 SafeChar (Annex B), or a quoted string with 0 to 64 of SafeChar, RestChar, space and tab inside"
pub data VALUE : List ℕ → Value → Type 0 where
  quoted_string : {a : List ℕ} → Many QuotedChar a → length a ≤ 64 → VALUE (quote ∷ a ++ quote ∷ []) (quoted a)
  safe_chars : {b : ℕ} {bs : List ℕ} → SafeChar b → Many SafeChar bs → length bs ≤ 63 → VALUE (b ∷ bs) (plain (b ∷ bs))

-- NAME = ALPHA *63(ALPHA / DIGIT / "_" ): "Word: a letter, then up to 63 letters, digits, `_`"
pub data NAME : List ℕ → Type 0 where
  name : {b : ℕ} {bs : List ℕ} → ALPHA b → Many (AlphaDigitOr (text "_")) bs → length bs ≤ 63 → NAME (b ∷ bs)

-- the number that digits write
unfoldable pub value_from : ℕ → List ℕ → ℕ
value_from v [] = v
value_from v (b ∷ bs) = value_from (v * 10 + (b - 48)) bs

-- 1*most(DIGIT), at most a limit
pub data UINT (most limit : ℕ) : List ℕ → ℕ → Type 0 where
  uint : {b : ℕ} {bs : List ℕ} → DIGIT b → Many DIGIT bs → length (b ∷ bs) ≤ most → value_from 0 (b ∷ bs) ≤ limit
      → UINT most limit (b ∷ bs) (value_from 0 (b ∷ bs))

-- UINT16 = 1*5(DIGIT) ; %x0-FFFF, UINT32 = 1*10(DIGIT) ; %x0-FFFFFFFF, Version = 1*2(DIGIT), V4hex = 1*3(DIGIT) ; "0".."255"
abbrev pub UINT16 : List ℕ → ℕ → Type 0
UINT16 = UINT 5 0xffff

abbrev pub UINT32 : List ℕ → ℕ → Type 0
UINT32 = UINT 10 0xffff_ffff

abbrev pub Version : List ℕ → ℕ → Type 0
Version = UINT 2 99

abbrev pub V4hex : List ℕ → ℕ → Type 0
V4hex = UINT 3 255

-- ["*"]
pub data Star : List ℕ → Type 0 where
  no_star : Star []
  with_star : Star (star ∷ [])

-- pathNAME = ["*"] NAME *("/" / "*"/ ALPHA / DIGIT /"_" / "$" ): "64 bytes in all"
pub data path_name : List ℕ → Type 0 where
  path : {a b c : List ℕ} → Star a → NAME b → Many (AlphaDigitOr (text "/*_$")) c → length (a ++ b ++ c) ≤ 64 → path_name (a ++ b ++ c)

-- TerminationID = "ROOT" / pathNAME / "$" / "*"
pub data TerminationID : List ℕ → Type 0 where
  root : {a : List ℕ} → capitals a ≡ text "ROOT" → TerminationID a
  named : {a : List ℕ} → path_name a → TerminationID a
  choose_one : TerminationID (dollar ∷ [])
  all_of : TerminationID (star ∷ [])

-- ---- the message identifier

-- IPv4address = V4hex DOT V4hex DOT V4hex DOT V4hex, domainAddress = "[" IPv4address "]"
pub data domain_address : List ℕ → Type 0 where
  IPv4address : {a b c d : List ℕ} {i j k l : ℕ} → V4hex a i → V4hex b j → V4hex c k → V4hex d l
      → domain_address (0x5b ∷ a ++ dot ∷ b ++ dot ∷ c ++ dot ∷ d ++ 0x5d ∷ [])

-- domainName = "<" (ALPHA / DIGIT) *63(ALPHA / DIGIT / "-" / ".") ">"
pub data domain_name : List ℕ → Type 0 where
  domain : {b : ℕ} {bs : List ℕ} → AlphaDigitOr [] b → Many (AlphaDigitOr (text "-.")) bs → length bs ≤ 63 → domain_name (0x3c ∷ b ∷ bs ++ 0x3e ∷ [])

-- [":" portNumber], portNumber = UINT16
pub data Port : List ℕ → Type 0 where
  no_port : Port []
  port : {a : List ℕ} {n : ℕ} → UINT16 a n → Port (colon ∷ a)

-- mId = (( domainAddress / domainName ) [":" portNumber]) / deviceName, deviceName = pathNAME
pub data m_id : List ℕ → Type 0 where
  by_address : {a b : List ℕ} → domain_address a → Port b → m_id (a ++ b)
  by_domain : {a b : List ℕ} → domain_name a → Port b → m_id (a ++ b)
  device_name : {a : List ℕ} → path_name a → m_id a

-- ---- commands

-- [SLASH ItemID], of pkgdName = PackageName SLASH ItemID: "optional `/` word"
pub data ItemID : List ℕ → Option (List ℕ) → Type 0 where
  no_item_id : ItemID [] none
  item_id : {a : List ℕ} → NAME a → ItemID (slash ∷ a) (some a)

-- [parmValue], parmValue = EQUAL VALUE: "optional `=` value"
pub data parm_value : List ℕ → Option Value → Type 0 where
  no_value : parm_value [] none
  with_value : {a b : List ℕ} {v : Value} → EQUAL a → VALUE b v → parm_value (a ++ b) (some v)

-- [LBRKT X RBRKT]
pub data Braces {A : Type 0} (X : List ℕ → List A → Type 0) : List ℕ → Option (List A) → Type 0 where
  no_braces : Braces X [] none
  with_braces : {a b c : List ℕ} {xs : List A} → LBRKT a → X b xs → RBRKT c → Braces X (a ++ b ++ c) (some xs)

-- auditDescriptor = AuditToken LBRKT [ auditItem *(COMMA auditItem) ] RBRKT, where nothing stands in its braces: "Audit/AT may have empty braces".
-- With items in them it is a parameter like any other; a value is read before them, as in any other
pub data audit_descriptor {A : Type 0} : List ℕ → ItemOf A → Type 0 where
  empty_audit : {a b c d : List ℕ} {v : Option Value} → Keyword AuditToken a → parm_value b v → LBRKT c → RBRKT d
      → audit_descriptor (a ++ b ++ c ++ d) (item a none v (some []))

-- ammParameter, and what may stand in one: "Item: word, optional `/` word, optional `=` value, optional `{` items `}`"; where seven levels are left
-- (level 1), auditDescriptor: "at level 1 of any command, document 01's one exception"
pub data amm_parameter {A : Type 0} (left : ℕ) (inner : List ℕ → List A → Type 0) : List ℕ → ItemOf A → Type 0 where
  parameter : {a b c d : List ℕ} {x : Option (List ℕ)} {v : Option Value} {is : Option (List A)}
      → NAME a → ItemID b x → parm_value c v → Braces inner d is → amm_parameter left inner (a ++ b ++ c ++ d) (item a x v is)
  audit : {a : List ℕ} {x : ItemOf A} → left ≡ 7 → audit_descriptor a x → amm_parameter left inner a x

-- ammParameter *(COMMA ammParameter), of k levels: "the command's own are level 1, and level 9 is a fault"
abbrev pub amm_parameters : (k : ℕ) → List ℕ → List (Item k) → Type 0
amm_parameters zero a is = ⊥
amm_parameters (suc k) a is = Commas (amm_parameter k (amm_parameters k)) a is

-- octetString = *(nonEscapeChar), nonEscapeChar = ( "\}" / %x01-7C / %x7E-FF ): "up to the first `}` that has no backslash before it, byte 0 being a
-- fault", so that no backslash stands at its end. `escaped`: a backslash stands before
pub data octet_string : Bool → List ℕ → Type 0 where
  no_octet : octet_string false []
  octet : {escaped : Bool} {b : ℕ} {bs : List ℕ} → 0 < b → (b ≡ right_brace → escaped ≡ true) → octet_string (eqb b 0x5c) bs → octet_string escaped (b ∷ bs)

-- localDescriptor = LocalToken LBRKT octetString RBRKT, remoteDescriptor = RemoteToken LBRKT octetString RBRKT: "text runs from after its white space", so
-- that white space before it is the brace's, and white space at its end its own
pub data text_descriptor (k : Token) : List ℕ → List ℕ → List ℕ → Type 0 where
  with_text : {a b c d : List ℕ} → Keyword k a → LBRKT b → octet_string false c → Without (text " \t\r\n;") c → LWSP d
      → text_descriptor k (a ++ b ++ c ++ right_brace ∷ d) a c

-- Local or Remote, where a brace comes next after the word
pub data HoldsText {A : Type 0} : ItemOf A → Type 0 where
  as_local : {w : List ℕ} {is : List A} → Keyword LocalToken w → HoldsText (item w none none (some is))
  as_remote : {w : List ℕ} {is : List A} → Keyword RemoteToken w → HoldsText (item w none none (some is))

-- mediaParm, in a Media of level 1
pub data media_parm : List ℕ → Item 7 → Type 0 where
  local_descriptor : {a w t : List ℕ} → text_descriptor LocalToken a w t → media_parm a (item w none (some (octets t)) none)
  remote_descriptor : {a w t : List ℕ} → text_descriptor RemoteToken a w t → media_parm a (item w none (some (octets t)) none)
  other_parm : {a : List ℕ} {x : Item 7} → amm_parameter 6 (amm_parameters 6) a x → ¬ HoldsText x → media_parm a x

-- called Media
pub data CalledMedia {A : Type 0} : ItemOf A → Type 0 where
  as_media : {w : List ℕ} {v : Option Value} {is : Option (List A)} → Keyword MediaToken w → CalledMedia (item w none v is)

-- ammParameter at level 1: "Accept Local/L and Remote/R in a level 1 Media"
pub data top_parameter : List ℕ → Item 8 → Type 0 where
  media_descriptor : {a : List ℕ} {x : Item 8} → amm_parameter 7 (Commas media_parm) a x → CalledMedia x → top_parameter a x
  other_parameter : {a : List ℕ} {x : Item 8} → amm_parameter 7 (amm_parameters 7) a x → ¬ CalledMedia x → top_parameter a x

-- ["O-"], ["W-"]: "`O-`, `W-` .. ignore letter case"
pub data Prefix (letter : ℕ) : List ℕ → Bool → Type 0 where
  no_prefix : Prefix letter [] false
  with_prefix : {b : ℕ} → capital b ≡ letter → Prefix letter (b ∷ dash ∷ []) true

-- ["O-"] ["W-"] commandRequest, ammRequest = (AddToken / MoveToken / ModifyToken ) EQUAL TerminationID [LBRKT ammParameter *(COMMA ammParameter) RBRKT]:
-- any word, but "PR .. EG; these words are never commands", nor is TP
pub data command_request : List ℕ → Command → Type 0 where
  amm_request : {a b c d e f : List ℕ} {optional wild : Bool} {is : Items} → Prefix 0x4f a optional → Prefix 0x57 b wild
      → NAME c → ¬ Keyword PriorityToken c → ¬ Keyword EmergencyToken c → ¬ Keyword TopologyToken c → EQUAL d → TerminationID e → Braces (Commas top_parameter) f is
      → command_request (a ++ b ++ c ++ d ++ e ++ f) (command optional wild c e is)

-- "At most 64 commands an action"
abbrev pub command_request_list : List ℕ → List Command → Type 0
command_request_list = AtMost 64 (Commas command_request)

-- ---- actions

-- topologyDirection = BothwayToken / IsolateToken / OnewayToken
pub data topology_direction : List ℕ → Direction → Type 0 where
  bothway : {a : List ℕ} → Keyword BothwayToken a → topology_direction a Bothway
  isolate : {a : List ℕ} → Keyword IsolateToken a → topology_direction a Isolate
  oneway : {a : List ℕ} → Keyword OnewayToken a → topology_direction a Oneway

-- topologyTriple = terminationA COMMA terminationB COMMA topologyDirection, terminationA = TerminationID, terminationB = TerminationID
pub data topology_triple : List ℕ → Triple → Type 0 where
  between : {a b c d e : List ℕ} {x : Direction} → TerminationID a → COMMA b → TerminationID c → COMMA d → topology_direction e x
      → topology_triple (a ++ b ++ c ++ d ++ e) (triple a c x)

-- topologyDescriptor = TopologyToken LBRKT topologyTriple *(COMMA topologyTriple) RBRKT
pub data topology_descriptor : List ℕ → List Triple → Type 0 where
  triples : {a b c d : List ℕ} {ts : List Triple} → Keyword TopologyToken a → LBRKT b → Commas topology_triple c ts → RBRKT d
      → topology_descriptor (a ++ b ++ c ++ d) ts

-- contextProperty = (topologyDescriptor / priority / EmergencyToken), priority = PriorityToken EQUAL UINT16: "PR `=` 1 to 5 digits"
pub data context_property : List ℕ → Property → Type 0 where
  with_topology : {a : List ℕ} {ts : List Triple} → topology_descriptor a ts → context_property a (topology ts)
  with_priority : {a b c : List ℕ} {n : ℕ} → Keyword PriorityToken a → EQUAL b → UINT 5 99999 c n → context_property (a ++ b ++ c) (priority n)
  with_emergency : {a : List ℕ} → Keyword EmergencyToken a → context_property a emergency

-- contextProperties = contextProperty *(COMMA contextProperty)
abbrev pub context_properties : List ℕ → List Property → Type 0
context_properties = Commas context_property

-- ContextID = (UINT32 / "*" / "-" / "$")
pub data ContextID : List ℕ → Context → Type 0 where
  context_number : {a : List ℕ} {n : ℕ} → UINT32 a n → ContextID a (Numbered n)
  context_all : ContextID (star ∷ []) All
  context_null : ContextID (dash ∷ []) Null
  context_choose : ContextID (dollar ∷ []) Choose

-- ( contextRequest [COMMA commandRequestList]) / commandRequestList, contextRequest = contextProperties: "at least one of either"
pub data action_body : List ℕ → List Property → List Command → Type 0 where
  properties : {a : List ℕ} {ps : List Property} → context_properties a ps → action_body a ps []
  properties_commands : {a b c : List ℕ} {ps : List Property} {cs : List Command} → context_properties a ps → COMMA b → command_request_list c cs
      → action_body (a ++ b ++ c) ps cs
  commands : {a : List ℕ} {cs : List Command} → command_request_list a cs → action_body a [] cs

-- actionRequest = CtxToken EQUAL ContextID LBRKT (..) RBRKT
pub data action_request : List ℕ → Action → Type 0 where
  in_context : {a b c d e f : List ℕ} {x : Context} {ps : List Property} {cs : List Command}
      → Keyword CtxToken a → EQUAL b → ContextID c x → LBRKT d → action_body e ps cs → RBRKT f
      → action_request (a ++ b ++ c ++ d ++ e ++ f) (action x ps cs)

-- ---- transactions and the message

-- TransactionID = UINT32: "Identifier 1..4294967295, at most 10 digits"
pub data TransactionID : List ℕ → ℕ → Type 0 where
  identifier : {a : List ℕ} {n : ℕ} → UINT32 a n → 1 ≤ n → TransactionID a n

-- transactionRequest = TransToken EQUAL TransactionID LBRKT actionRequest *(COMMA actionRequest) RBRKT: "1 to 16 actions"
pub data transaction_request : List ℕ → Transaction → Type 0 where
  with_actions : {a b c d e f : List ℕ} {id : ℕ} {xs : List Action} → Keyword TransToken a → EQUAL b → TransactionID c id
      → LBRKT d → AtMost 16 (Commas action_request) e xs → RBRKT f → transaction_request (a ++ b ++ c ++ d ++ e ++ f) (transaction id xs)

-- transactionAck = transactionID / (transactionID "-" transactionID): "a backward range" is a fault
pub data transaction_ack : List ℕ → Ack → Type 0 where
  one_id : {a : List ℕ} {n : ℕ} → TransactionID a n → transaction_ack a (record { first = n; last = n })
  from_to : {a b : List ℕ} {n m : ℕ} → TransactionID a n → TransactionID b m → n ≤ m → transaction_ack (a ++ dash ∷ b) (record { first = n; last = m })

-- transactionResponseAck = ResponseAckToken LBRKT transactionAck *(COMMA transactionAck) RBRKT
pub data transaction_response_ack : List ℕ → List Ack → Type 0 where
  with_acks : {a b c d : List ℕ} {ks : List Ack} → Keyword ResponseAckToken a → LBRKT b → Commas transaction_ack c ks → RBRKT d
      → transaction_response_ack (a ++ b ++ c ++ d) ks

-- ( transactionRequest / transactionResponseAck )
pub data transaction_part : List ℕ → Part → Type 0 where
  a_request : {a : List ℕ} {x : Transaction} → transaction_request a x → transaction_part a (request x)
  an_ack : {a : List ℕ} {ks : List Ack} → transaction_response_ack a ks → transaction_part a (acknowledge ks)

-- transactionList = 1*( transactionRequest / transactionResponseAck )
pub data transaction_list : List ℕ → List Part → Type 0 where
  last_part : {a : List ℕ} {x : Part} → transaction_part a x → transaction_list a (x ∷ [])
  next_part : {a b : List ℕ} {x : Part} {xs : List Part} → transaction_part a x → transaction_list b xs → transaction_list (a ++ b) (x ∷ xs)

-- messageBody = transactionList: "1 to 8 transactions with no comma between"; K stands "as one of the eight"
abbrev pub message_body : List ℕ → List Part → Type 0
message_body = AtMost 8 transaction_list

-- LWSP MegacopToken SLASH Version SEP mId SEP: "A header (through all the white space after the mId)", with its version and its mId
pub data Header : List ℕ → ℕ → List ℕ → Type 0 where
  header : {a b c d e f : List ℕ} {v : ℕ} → LWSP a → Keyword MegacopToken b → Version c v → SEP d → m_id e → SEP f
      → Header (a ++ b ++ slash ∷ c ++ d ++ e ++ f) v e

-- megacoMessage = LWSP message, message = MegacopToken SLASH Version SEP mId SEP messageBody; with its version, "the sender's mId bytes" and its parts
pub data megaco_message : List ℕ → ℕ → List ℕ → List Part → Type 0 where
  message : {a b m : List ℕ} {v : ℕ} {xs : List Part} → Header a v m → message_body b xs → megaco_message (a ++ b) v m xs

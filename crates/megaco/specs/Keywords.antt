-- Keywords (document 01, 'The text'): Annex B.2's tokens in its order, each with its long and its short form. Letter case is ignored.
use Rattle.std.specs.Prelude.{ℕ, Bool, true, false, ◌||◌, List, [], ◌∷◌, eqb}
use Rattle.std.proofs.Math.Option.{Option, some, none}
use Rattle.base.specs.Pick.{pick}
use Rattle.base.specs.Lists.{same}
use Rattle.base.specs.Bytes.{text}
use Rattle.megaco.specs.Bytes.{capitals}
use Rattle.megaco.specs.declared.Token.{Token}
use Rattle.megaco.specs.declared.Token.TheVariants.{AddToken, AuditToken, AuditValueToken, BothwayToken, CtxToken, EmergencyToken, ErrorToken, InactiveToken, IsolateToken, InSvcToken, LocalToken, LocalControlToken, LoopbackToken, MediaToken, MegacopToken, ModeToken, ModifyToken, MoveToken, OnewayToken, OutOfSvcToken, PriorityToken, RecvonlyToken, RemoteToken, ReplyToken, SendonlyToken, SendrecvToken, ServiceStatesToken, StatsToken, SubtractToken, TerminationStateToken, TestToken, TopologyToken, TransToken, ResponseAckToken}

pub data Row : Type 0 where
  row : (meaning : Token) (long short : List ℕ) → Row

-- Reply/P, Error/ER and Statistics/SA are written only, in their short form: see Reply
abbrev pub page : List Row
page =
    row AddToken (text "ADD") (text "A")
    ∷ row AuditToken (text "AUDIT") (text "AT")
    ∷ row AuditValueToken (text "AUDITVALUE") (text "AV")
    ∷ row BothwayToken (text "BOTHWAY") (text "BW")
    ∷ row CtxToken (text "CONTEXT") (text "C")
    ∷ row EmergencyToken (text "EMERGENCY") (text "EG")
    ∷ row ErrorToken (text "ERROR") (text "ER")
    ∷ row InactiveToken (text "INACTIVE") (text "IN")
    ∷ row IsolateToken (text "ISOLATE") (text "IS")
    ∷ row InSvcToken (text "INSERVICE") (text "IV")
    ∷ row LocalToken (text "LOCAL") (text "L")
    ∷ row LocalControlToken (text "LOCALCONTROL") (text "O")
    ∷ row LoopbackToken (text "LOOPBACK") (text "LB")
    ∷ row MediaToken (text "MEDIA") (text "M")
    ∷ row MegacopToken (text "MEGACO") (text "!")
    ∷ row ModeToken (text "MODE") (text "MO")
    ∷ row ModifyToken (text "MODIFY") (text "MF")
    ∷ row MoveToken (text "MOVE") (text "MV")
    ∷ row OnewayToken (text "ONEWAY") (text "OW")
    ∷ row OutOfSvcToken (text "OUTOFSERVICE") (text "OS")
    ∷ row PriorityToken (text "PRIORITY") (text "PR")
    ∷ row RecvonlyToken (text "RECEIVEONLY") (text "RC")
    ∷ row RemoteToken (text "REMOTE") (text "R")
    ∷ row ReplyToken (text "REPLY") (text "P")
    ∷ row SendonlyToken (text "SENDONLY") (text "SO")
    ∷ row SendrecvToken (text "SENDRECEIVE") (text "SR")
    ∷ row ServiceStatesToken (text "SERVICESTATES") (text "SI")
    ∷ row StatsToken (text "STATISTICS") (text "SA")
    ∷ row SubtractToken (text "SUBTRACT") (text "S")
    ∷ row TerminationStateToken (text "TERMINATIONSTATE") (text "TS")
    ∷ row TestToken (text "TEST") (text "TE")
    ∷ row TopologyToken (text "TOPOLOGY") (text "TP")
    ∷ row TransToken (text "TRANSACTION") (text "T")
    ∷ row ResponseAckToken (text "TRANSACTIONRESPONSEACK") (text "K")
    ∷ []

-- ---- which token

-- any numbers, all different; a new token takes the next
abbrev pub number_of : Token → ℕ
number_of AddToken = 0
number_of CtxToken = 1
number_of EmergencyToken = 2
number_of ErrorToken = 3
number_of InactiveToken = 4
number_of InSvcToken = 5
number_of LocalControlToken = 6
number_of LoopbackToken = 7
number_of MediaToken = 8
number_of MegacopToken = 9
number_of ModeToken = 10
number_of ModifyToken = 11
number_of MoveToken = 12
number_of OutOfSvcToken = 13
number_of PriorityToken = 14
number_of RecvonlyToken = 15
number_of ReplyToken = 16
number_of SendonlyToken = 17
number_of SendrecvToken = 18
number_of ServiceStatesToken = 19
number_of SubtractToken = 20
number_of TerminationStateToken = 21
number_of TestToken = 22
number_of TransToken = 23
number_of AuditToken = 24
number_of AuditValueToken = 25
number_of BothwayToken = 26
number_of IsolateToken = 27
number_of OnewayToken = 28
number_of TopologyToken = 29
number_of LocalToken = 30
number_of RemoteToken = 31
number_of StatsToken = 32
number_of ResponseAckToken = 33

unfoldable pub is_token : Token → Token → Bool
is_token j k = eqb (number_of j) (number_of k)

-- ---- the forms of a token

pub data Forms : Type 0 where
  forms : (long short : List ℕ) → Forms

abbrev choose : Bool → Forms → Forms → Forms
choose true g h = g
choose false g h = h

abbrev pub forms_in : ℕ → List Row → Forms
forms_in n [] = forms [] []
forms_in n (row k long short ∷ rs) = choose (eqb n (number_of k)) (forms long short) (forms_in n rs)

-- those of its row
unfoldable pub forms_of : Token → Forms
forms_of k = forms_in (number_of k) page

unfoldable pub spelt : Forms → List ℕ → Bool
spelt (forms long short) w = same w long || same w short

-- a word is the keyword, in either form and any letter case
unfoldable pub spells : Token → List ℕ → Bool
spells k w = spelt (forms_of k) (capitals w)

-- ---- the meaning of any bytes

-- the meaning of the row that has the word
unfoldable pub meaning_in : List Row → List ℕ → Option Token
meaning_in [] w = none
meaning_in (row k long short ∷ rs) w = let m = meaning_in rs w in pick (same w long || same w short) (some k) m

-- the meaning of the row that spells the word, letter case aside, or none
unfoldable pub meaning_of : List ℕ → Option Token
meaning_of w = meaning_in page (capitals w)

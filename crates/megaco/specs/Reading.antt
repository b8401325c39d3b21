-- Bytes to tree (document 01, 'The text', in Annex B.2's order). A reader gives a part's tree and the place after it and its white space, or a fault.
use Rattle.std.specs.Prelude.{ℕ, zero, suc, ◌+◌, ◌-◌, Bool, false, not, ◌&&◌, ◌||◌, List, [], ◌∷◌, length, get_or, ltb, eqb, Some, None}
use Rattle.std.proofs.Math.Option.{Option, none, some}
use Rattle.base.specs.Pick.{pick}
use Rattle.base.specs.Lists.{is_at, part}
use Rattle.megaco.specs.Bytes.{equal, comma, left_brace, right_brace, slash, quote, dash, dollar, star, capital}
use Rattle.megaco.specs.White.{after, white_at, sep_at}
use Rattle.megaco.specs.Keywords.{spells}
use Rattle.megaco.specs.Items.{called}
use Rattle.megaco.specs.declared.Token.{Token}
use Rattle.megaco.specs.declared.Token.TheVariants.{AuditToken, MediaToken, LocalToken, RemoteToken, MegacopToken, TransToken, CtxToken, PriorityToken, EmergencyToken, TopologyToken, IsolateToken, OnewayToken, BothwayToken, ResponseAckToken}
use Rattle.megaco.specs.Tokens.{mark_at, sign_at, row_at, word_at, keyword_at, termination_at, number_at, value_at, octets_at, m_id_at, at_least}
use Rattle.megaco.specs.Tree.{Value, plain, quoted, octets, ItemOf, item, Item, Command, command, Triple, triple, Property, priority, emergency, topology, Action, action, Transaction, transaction, Message, well_formed, fault400, fault403, fault406, Part, request, acknowledge}
use Rattle.megaco.specs.declared.Ack.{Ack}
use Rattle.megaco.specs.Results.{Parsed, Number}
use Rattle.megaco.specs.declared.Class.TheVariants.{WordByte}
use Rattle.megaco.specs.declared.Context.{Context}
use Rattle.megaco.specs.declared.Context.TheVariants.{Null, Numbered, Choose, All}
use Rattle.megaco.specs.declared.Direction.{Direction}
use Rattle.megaco.specs.declared.Direction.TheVariants.{Isolate, Oneway, Bothway}

-- ---- what a reader gives, and how one follows another
pub data Read (A : Type 0) : Type 0 where
  got : A → ℕ → Read A
  fault : Read A

-- read one part and then another
unfoldable pub bind : {A B : Type 0} → Read A → (A → ℕ → Read B) → Read B
bind (got a p) f = f a p
bind fault f = fault

-- a part that leaves nothing in the tree
unfoldable pub skip : {B : Type 0} → Parsed → (ℕ → Read B) → Read B
skip (Some p) f = f p
skip None f = fault

-- a part whose tree is told by its place and its end
unfoldable pub reading : {A : Type 0} → Parsed → (ℕ → A) → Read A
reading (Some p) f = got (f p) p
reading None f = fault

unfoldable pub read_number : {A : Type 0} → Number → (ℕ → A) → Read A
read_number (Some (v, p)) f = got (f v) p
read_number None f = fault

-- a part and the white space after it
unfoldable pub spaced : {A : Type 0} → List ℕ → Read A → Read A
spaced s r = bind r (λ a p. skip (white_at s p) (got a))

-- one to k parts, joined by commas
unfoldable pub list_r : {A : Type 0} → (ℕ → Read A) → List ℕ → ℕ → ℕ → Read (List A)
list_r r s zero at = fault
list_r r s (suc k) at =
    bind (r at) (λ a p.
    let more = skip (sign_at comma s p) (λ q. bind (list_r r s k q) (λ l e. got (a ∷ l) e)) in
    pick (is_at s p comma) more (got (a ∷ []) p))

-- where document 01 sets no limit on a list: more than any message has bytes
unfoldable pub unlimited : List ℕ → ℕ
unlimited s = length s + 1

-- a keyword and `=`
unfoldable pub key_at : Token → List ℕ → ℕ → Parsed
key_at k s at = after (keyword_at k s at) (λ p. after (white_at s p) (sign_at equal s))

unfoldable pub word_r : List ℕ → ℕ → Read (List ℕ)
word_r s at = reading (word_at s at) (part s at)

-- ---- items
-- "optional `/` word"
unfoldable pub second_r : List ℕ → ℕ → Read (Option (List ℕ))
second_r s at = pick (is_at s at slash) (bind (word_r s (at + 1)) (λ w p. got (some w) p)) (got none at)

-- the bytes of a value, or those between its quotes
unfoldable pub value_of : List ℕ → ℕ → ℕ → Value
value_of s a e = pick (is_at s a quote) (quoted (part s (a + 1) (e - 1))) (plain (part s a e))

-- "optional `=` value"
unfoldable pub value_r : List ℕ → ℕ → Read (Option Value)
value_r s at =
    let given = skip (sign_at equal s at) (λ p. spaced s (reading (value_at s p) (λ e. some (value_of s p e)))) in
    pick (is_at s at equal) given (got none at)

-- "optional `{` items `}`"
unfoldable pub braces_r : {A : Type 0} → (ℕ → Read (List A)) → List ℕ → ℕ → Read (Option (List A))
braces_r inner s at =
    let given = skip (sign_at left_brace s at) (λ p. bind (inner p) (λ is q. skip (sign_at right_brace s q) (got (some is)))) in
    pick (is_at s at left_brace) given (got none at)

-- "Audit/AT may have empty braces, at level 1 of any command, document 01's one exception": at level 1 seven levels are left
unfoldable pub may_be_empty : ℕ → List ℕ → Option (List ℕ) → Bool
may_be_empty left w x = eqb left 7 && called AuditToken w x

-- what stands in braces: items, or nothing where they may be empty
unfoldable pub or_none_r : {A : Type 0} → Bool → (ℕ → Read (List A)) → List ℕ → ℕ → Read (List A)
or_none_r empty inner s at = let items = inner at in pick (empty && is_at s at right_brace) (got [] at) items

-- an item, where so many more levels are left
unfoldable pub item_r : {A : Type 0} → ℕ → (ℕ → Read (List A)) → List ℕ → ℕ → Read (ItemOf A)
item_r left inner s at =
    bind (word_r s at) (λ w p.
    bind (spaced s (second_r s p)) (λ x q.
    bind (value_r s q) (λ v r.
    bind (braces_r (or_none_r (may_be_empty left w x) inner s) s r) (λ is e. got (item w x v is) e))))

-- "Items are one or more, joined by commas", of k levels
unfoldable pub items_r : (k : ℕ) → List ℕ → ℕ → Read (List (Item k))
items_r zero s at = fault
items_r (suc k) s at = list_r (item_r k (items_r k s) s) s (unlimited s) at

-- ---- Local and Remote: "in a level 1 Media; where a brace comes next after the word, text runs from after its white space" (document 02, CR 11)
unfoldable pub word_here : List ℕ → ℕ → List ℕ
word_here s at = part s at (row_at WordByte s at)

-- an item that is called Media begins here
unfoldable pub media_here : List ℕ → ℕ → Bool
media_here s at = not (is_at s (row_at WordByte s at) slash) && spells MediaToken (word_here s at)

unfoldable pub brace_from : List ℕ → Parsed → Bool
brace_from s (Some p) = is_at s p left_brace
brace_from s None = false

-- Local or Remote stands here, and a brace comes next
unfoldable pub speech_here : List ℕ → ℕ → Bool
speech_here s at = (spells LocalToken (word_here s at) || spells RemoteToken (word_here s at)) && brace_from s (white_at s (row_at WordByte s at))

unfoldable pub speech_r : List ℕ → ℕ → Read (Item 7)
speech_r s at =
    bind (spaced s (word_r s at)) (λ w p.
    skip (sign_at left_brace s p) (λ q.
    bind (reading (octets_at s q) (part s q)) (λ t r.
    skip (sign_at right_brace s r) (got (item w none (some (octets t)) none)))))

-- what a level 1 Media holds
unfoldable pub media_item_r : List ℕ → ℕ → Read (Item 7)
media_item_r s at = pick (speech_here s at) (speech_r s at) (item_r 6 (items_r 6 s) s at)

unfoldable pub media_r : List ℕ → ℕ → Read (List (Item 7))
media_r s at = list_r (media_item_r s) s (unlimited s) at

-- level 1
unfoldable pub top_item_r : List ℕ → ℕ → Read (Item 8)
top_item_r s at = pick (media_here s at) (item_r 7 (media_r s) s at) (item_r 7 (items_r 7 s) s at)

unfoldable pub top_r : List ℕ → ℕ → Read (List (Item 8))
top_r s at = list_r (top_item_r s) s (unlimited s) at

-- ---- commands
-- `O-` or `W-` stands here, in either letter case
unfoldable pub prefix_at : ℕ → List ℕ → ℕ → Bool
prefix_at b s at = eqb (capital (get_or s at 0)) b && is_at s (at + 1) dash

unfoldable pub prefix_end : ℕ → List ℕ → ℕ → ℕ
prefix_end b s at = pick (prefix_at b s at) (at + 2) at

-- "PR .. EG; these words are never commands", and TP
unfoldable pub is_property : List ℕ → Bool
is_property w = spells PriorityToken w || spells EmergencyToken w || spells TopologyToken w

-- a command's word
unfoldable pub order_r : List ℕ → ℕ → Read (List ℕ)
order_r s at = bind (word_r s at) (λ w p. pick (is_property w) fault (got w p))

unfoldable pub command_r : List ℕ → ℕ → Read Command
command_r s at =
    let o = prefix_end 0x4f s at in
    bind (spaced s (order_r s (prefix_end 0x57 s o))) (λ w p.
    skip (sign_at equal s p) (λ q.
    bind (spaced s (reading (termination_at s q) (part s q))) (λ n r.
    bind (braces_r (top_r s) s r) (λ is e. got (command (prefix_at 0x4f s at) (prefix_at 0x57 s o) w n is) e))))

-- ---- actions
-- "number up to 4294967295, at most 10 digits, or `-`, `$`, `*`"
unfoldable pub context_r : List ℕ → ℕ → Read Context
context_r s at =
    pick (is_at s at dash) (got Null (at + 1))
    (pick (is_at s at dollar) (got Choose (at + 1))
    (pick (is_at s at star) (got All (at + 1))
    (read_number (number_at s at 10 4294967295) Numbered)))

-- "Isolate/IS, Oneway/OW, Bothway/BW"
unfoldable pub direction_r : List ℕ → ℕ → Read Direction
direction_r s at =
    bind (word_r s at) (λ w p.
    pick (spells IsolateToken w) (got Isolate p) (pick (spells OnewayToken w) (got Oneway p) (pick (spells BothwayToken w) (got Bothway p) fault)))

-- a name in a triple: any text of a termination
unfoldable pub party_r : List ℕ → ℕ → Read (List ℕ)
party_r s at = spaced s (reading (termination_at s at) (part s at))

-- Annex B.2's topologyTriple: two names and a direction, joined by commas
unfoldable pub triple_r : List ℕ → ℕ → Read Triple
triple_r s at =
    bind (party_r s at) (λ a p.
    skip (sign_at comma s p) (λ q.
    bind (party_r s q) (λ b r.
    skip (sign_at comma s r) (λ u.
    bind (spaced s (direction_r s u)) (λ d e. got (triple a b d) e)))))

-- Annex B.2's topologyDescriptor: TP `{` triples, joined by commas `}`
unfoldable pub topology_r : List ℕ → ℕ → Read Property
topology_r s at =
    skip (after (word_at s at) (white_at s)) (λ p.
    skip (sign_at left_brace s p) (λ q.
    bind (list_r (triple_r s) s (unlimited s) q) (λ ts e.
    skip (sign_at right_brace s e) (got (topology ts)))))

-- "PR `=` 1 to 5 digits; EG", TP
unfoldable pub property_r : List ℕ → ℕ → Read Property
property_r s at =
    pick (spells EmergencyToken (word_here s at)) (spaced s (reading (word_at s at) (λ e. emergency)))
    (pick (spells TopologyToken (word_here s at)) (topology_r s at)
    (skip (key_at PriorityToken s at) (λ p. spaced s (read_number (number_at s p 5 99999) priority))))

-- what stands in an action's braces
pub data Body : Type 0 where
  body : List Property → List Command → Body

unfoldable pub with_property : Property → Body → Body
with_property p (body ps cs) = body (p ∷ ps) cs

unfoldable pub property_then : (ℕ → Read Body) → List ℕ → ℕ → Read Body
property_then rest s at =
    bind (property_r s at) (λ x p.
    let more = skip (sign_at comma s p) (λ q. bind (rest q) (λ b e. got (with_property x b) e)) in
    pick (is_at s p comma) more (got (body (x ∷ []) []) p))

-- "properties, then commands, all joined by commas, at least one of either", "At most 64 commands an action"
unfoldable pub body_r : ℕ → List ℕ → ℕ → Read Body
body_r zero s at = fault
body_r (suc k) s at =
    let properties = property_then (body_r k s) s at in
    let commands = bind (list_r (command_r s) s 64 at) (λ cs e. got (body [] cs) e) in
    pick (is_property (word_here s at)) properties commands

unfoldable pub action_of : Context → Body → Action
action_of c (body ps cs) = action c ps cs

unfoldable pub action_r : List ℕ → ℕ → Read Action
action_r s at =
    skip (key_at CtxToken s at) (λ p.
    bind (spaced s (context_r s p)) (λ c q.
    skip (sign_at left_brace s q) (λ r.
    bind (body_r (unlimited s) s r) (λ b e.
    skip (sign_at right_brace s e) (got (action_of c b))))))

-- ---- acknowledgements
abbrev pub ack : ℕ → ℕ → Ack
ack first last = record { first = first; last = last }

-- an identifier from a lowest one on: "a backward range or an identifier 0 too" is a fault
unfoldable pub identifier_from : ℕ → List ℕ → ℕ → Number
identifier_from low s at = at_least low (number_at s at 10 4294967295)

-- Annex B.2's transactionAck: an identifier, or a first and a last with `-` between
unfoldable pub range_r : List ℕ → ℕ → Read Ack
range_r s at =
    bind (read_number (identifier_from 1 s at) (λ v. v)) (λ v p.
    pick (is_at s p dash) (read_number (identifier_from v s (p + 1)) (ack v)) (got (ack v v) p))

unfoldable pub ack_r : List ℕ → ℕ → Read Ack
ack_r s at = spaced s (range_r s at)

-- "TransactionResponseAck/K with identifiers and ranges": K `{` those, joined by commas `}`
unfoldable pub acks_r : List ℕ → ℕ → Read (List Ack)
acks_r s at =
    skip (after (word_at s at) (white_at s)) (λ p.
    skip (sign_at left_brace s p) (λ q.
    bind (list_r (ack_r s) s (unlimited s) q) (λ ks e.
    skip (sign_at right_brace s e) (got ks))))

-- ---- transactions and the message: where a fault is told
-- "1 to 16 actions, comma between", from behind the opening brace through the closing one
unfoldable pub actions_r : List ℕ → ℕ → Read (List Action)
actions_r s at = skip (white_at s at) (λ p. bind (list_r (action_r s) s 16 p) (λ acts q. skip (mark_at right_brace s q) (got acts)))

-- "Fault elsewhere: ER=400{}": of a part, and of a number, that stands outside a transaction's braces
unfoldable pub elsewhere : Parsed → (ℕ → Message) → Message
elsewhere (Some p) f = f p
elsewhere None f = fault400

unfoldable pub numbered : Number → (ℕ → ℕ → Message) → Message
numbered (Some (v, p)) f = f v p
numbered None f = fault400

-- "Fault between a transaction's opening and closing brace": 403
unfoldable pub inside : ℕ → Read (List Action) → (List Action → ℕ → Message) → Message
inside id (got acts p) f = f acts p
inside id fault f = fault403 id

-- "any fault in K .. is 400"
unfoldable pub acknowledged : Read (List Ack) → (List Ack → ℕ → Message) → Message
acknowledged (got ks p) f = f ks p
acknowledged fault f = fault400

unfoldable pub followed : Part → Message → Message
followed x = elim [ well_formed xs ↦ well_formed (x ∷ xs) | fault400 ↦ fault400 | fault403 id ↦ fault403 id | fault406 ↦ fault406 ]

unfoldable pub end_or : (ℕ → Message) → Part → List ℕ → ℕ → Message
end_or rest x s at = let more = followed x (rest at) in pick (ltb at (length s)) more (well_formed (x ∷ []))

-- a transaction from behind its identifier, and what may follow it
unfoldable pub braces_then : (ℕ → Message) → ℕ → List ℕ → ℕ → Message
braces_then rest id s at =
    elsewhere (after (white_at s at) (mark_at left_brace s)) (λ p.
    inside id (actions_r s p) (λ acts q.
    elsewhere (white_at s q) (λ e. end_or rest (request (transaction id acts)) s e)))

-- a transaction, and what may follow it. "or identifier 0": 403 as soon as its digits end
unfoldable pub request_then : (ℕ → Message) → List ℕ → ℕ → Message
request_then rest s at =
    elsewhere (key_at TransToken s at) (λ p.
    numbered (number_at s p 10 4294967295) (λ id q.
    let more = braces_then rest id s q in pick (eqb id 0) (fault403 0) more))

-- an acknowledgement, and what may follow it
unfoldable pub acks_then : (ℕ → Message) → List ℕ → ℕ → Message
acks_then rest s at = acknowledged (acks_r s at) (λ ks e. end_or rest (acknowledge ks) s e)

-- at most k of them, to the end of the message
unfoldable pub transactions_r : ℕ → List ℕ → ℕ → Message
transactions_r zero s at = fault400
transactions_r (suc k) s at =
    let requests = request_then (transactions_r k s) s at in
    let acks = acks_then (transactions_r k s) s at in pick (spells ResponseAckToken (word_here s at)) acks requests

-- "MEGACO `/`", before the version
unfoldable pub start_at : List ℕ → Parsed
start_at s = after (white_at s 0) (λ p. after (pick (is_at s p 0x21) (Some (p + 1)) (keyword_at MegacopToken s p)) (mark_at slash s))

-- the mId, with white space on both sides
unfoldable pub sender_at : List ℕ → ℕ → Parsed
sender_at s at = after (sep_at s at) (λ p. after (m_id_at s p) (sep_at s))

-- "the sender's mId bytes", as received
unfoldable pub sender_r : List ℕ → Read (List ℕ)
sender_r s =
    skip (start_at s) (λ p.
    bind (read_number (number_at s p 2 99) (λ v. v)) (λ v q.
    skip (sep_at s q) (λ a. reading (m_id_at s a) (part s a))))

-- none where no header reads: such a message runs nothing
unfoldable pub or_no_bytes : Read (List ℕ) → List ℕ
or_no_bytes (got m p) = m
or_no_bytes fault = []

unfoldable pub sender_of : List ℕ → List ℕ
sender_of s = or_no_bytes (sender_r s)

-- "MEGACO `/` version (1 or 2 digits), mId, then 1 to 8 transactions". "A header .. that reads well with a version other than 1: ER=406{}"
unfoldable pub message_r : List ℕ → Message
message_r s =
    elsewhere (start_at s) (λ p.
    numbered (number_at s p 2 99) (λ v q.
    elsewhere (sender_at s q) (λ r.
    let rest = transactions_r 8 s r in pick (eqb v 1) rest fault406)))

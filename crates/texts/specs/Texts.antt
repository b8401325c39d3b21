-- The texts in the braces of Local and Remote of a message, in reading order, whose each is, and where it stands (document 02, CR 11): "The reader hands
-- back the part of the message that holds the text, for the RTP card".
use Rattle.std.specs.Prelude.{ℕ, zero, suc, ◌+◌, ◌*◌, ◌≤◌, ◌≡◌, Bool, ◌&&◌, List, [], ◌∷◌, ◌++◌, length, ltb, Some, None, Ok, Err}
use Rattle.std.specs.declared.option.Option.{Option as StdOption}
use Rattle.std.proofs.Math.Option.{Option, none, some}
use Rattle.std.proofs.Common.{ControlFlow, Continue, Break}
use Rattle.base.specs.Pick.{pick}
use Rattle.base.specs.Lists.{is_at, part}
use Rattle.megaco.specs.Bytes.{comma, left_brace, right_brace}
use Rattle.megaco.specs.Keywords.{spells}
use Rattle.megaco.specs.Tree.{Value, plain, quoted, octets, ItemOf, item, Command, command, Action, action, Transaction, transaction, Part, request, acknowledge, Message, well_formed, fault400, fault403, fault406}
use Rattle.megaco.specs.Reading.{unlimited, media_here, speech_here, message_r}
use Rattle.megaco.specs.Items.{called, items_in}
use Rattle.protocol.specs.Types.{Side, OfLocal, OfRemote, LocalToken, MediaToken}
use Rattle.read_command.specs.declared.Rest.{Rest}
use Rattle.read_command.specs.Pieces.{piece_of}
use Rattle.read_command.specs.Production.{past_sign, word_end}
use Rattle.read_command.specs.Places.{head_end, octets_start, octets_end, media_item_at, top_item_at, name_start, name_end, command_head_end, command_at, rest_in, action_at}
use Rattle.read_command.specs.Messages.{Verdict, actions_start, is_acknowledgement, part_end, header_end, verdict_of}
use Rattle.texts.specs.declared.Holder.{Holder}
use Rattle.texts.specs.declared.Behind.{Behind}

-- ---- the texts of a message that was read

-- a text: whether it is Local's or Remote's, the name of its command's termination as written, and its bytes
pub record Text : Type 0 where
  pub side : Side
  pub name : List ℕ
  pub bytes : List ℕ

unfoldable pub held_text : Side → List ℕ → Option Value → List Text
held_text d n none = []
held_text d n (some (plain w)) = []
held_text d n (some (quoted w)) = []
held_text d n (some (octets t)) = record { side = d; name = n; bytes = t } ∷ []

unfoldable pub gather : {A : Type 0} → (A → List Text) → List A → List Text
gather f [] = []
gather f (x ∷ xs) = f x ++ gather f xs

-- only Local and Remote hold one
unfoldable pub side_called : Bool → Side
side_called local = pick local OfLocal OfRemote

unfoldable pub part_texts : {A : Type 0} → List ℕ → ItemOf A → List Text
part_texts n (item w x v is) = held_text (side_called (called LocalToken w x)) n v

-- "in a level 1 Media"
unfoldable pub item_texts : {A : Type 0} → List ℕ → ItemOf (ItemOf A) → List Text
item_texts n (item w x v is) = pick (called MediaToken w x) (gather (part_texts n) (items_in is)) []

unfoldable pub command_texts : Command → List Text
command_texts (command optional wild word name is) = gather (item_texts name) (items_in is)

unfoldable pub action_texts : Action → List Text
action_texts (action c ps cs) = gather command_texts cs

unfoldable pub transaction_texts : Transaction → List Text
transaction_texts (transaction id acts) = gather action_texts acts

-- an acknowledgement has none
unfoldable pub served_texts : Part → List Text
served_texts (request x) = transaction_texts x
served_texts (acknowledge ks) = []

unfoldable pub message_texts : Message → List Text
message_texts (well_formed xs) = gather served_texts xs
message_texts fault400 = []
message_texts (fault403 id) = []
message_texts fault406 = []

-- the text with this number, from 0, if there is one
unfoldable pub text_in : List Text → ℕ → Option Text
text_in [] k = none
text_in (t ∷ ts) zero = some t
text_in (t ∷ ts) (suc k) = text_in ts k

unfoldable pub text_number : List ℕ → ℕ → Option Text
text_number s k = text_in (message_texts (message_r s)) k

-- what is told of it: 0 for none, 1 for Local, 2 for Remote; the name and the bytes, no bytes for none
unfoldable pub side_number : Side → ℕ
side_number OfLocal = 1
side_number OfRemote = 2

unfoldable pub side_of : Option Text → ℕ
side_of none = 0
side_of (some t) = side_number t.side

unfoldable pub name_of : Option Text → List ℕ
name_of none = []
name_of (some t) = t.name

unfoldable pub bytes_of : Option Text → List ℕ
bytes_of none = []
bytes_of (some t) = t.bytes

-- ---- who holds a text, by position: where the command begins, and where Local or Remote does

-- in at most k parts joined by commas
unfoldable pub holders_in : (ℕ → List Holder) → (ℕ → ℕ) → List ℕ → ℕ → ℕ → List Holder
holders_in one end s zero at = []
holders_in one end s (suc k) at =
    let more = holders_in one end s k (past_sign comma s (end at)) in
    one at ++ pick (is_at s (end at) comma) more []

-- in the command that begins at c
unfoldable pub media_item_holders : List ℕ → ℕ → ℕ → List Holder
media_item_holders s c at = pick (speech_here s at) (record { command = c; item = at } ∷ []) []

unfoldable pub media_holders : List ℕ → ℕ → ℕ → List Holder
media_holders s c at = holders_in (media_item_holders s c) (λ j. (media_item_at s j).end) s (unlimited s) at

unfoldable pub top_item_holders : List ℕ → ℕ → ℕ → List Holder
top_item_holders s c at = pick (media_here s at && is_at s (head_end s at) left_brace) (media_holders s c (past_sign left_brace s (head_end s at))) []

unfoldable pub top_holders : List ℕ → ℕ → ℕ → List Holder
top_holders s c at = holders_in (top_item_holders s c) (λ j. (top_item_at s j).end) s (unlimited s) at

unfoldable pub command_holders : List ℕ → ℕ → List Holder
command_holders s at = pick (is_at s (command_head_end s at) left_brace) (top_holders s at (past_sign left_brace s (command_head_end s at))) []

unfoldable pub commands_holders : List ℕ → ℕ → List Holder
commands_holders s at = holders_in (command_holders s) (λ j. (command_at s j).end) s 64 at

unfoldable pub rest_holders : List ℕ → Rest → List Holder
rest_holders s r = pick r.commands (commands_holders s r.at) []

unfoldable pub action_holders : List ℕ → ℕ → List Holder
action_holders s at = rest_holders s (rest_in s at)

unfoldable pub actions_holders : List ℕ → ℕ → List Holder
actions_holders s at = holders_in (action_holders s) (λ j. (action_at s j).end) s 16 at

-- a transaction or an acknowledgement
unfoldable pub served_holders : List ℕ → ℕ → List Holder
served_holders s at = pick (is_acknowledgement s at) [] (actions_holders s (actions_start s at))

-- at most k of them
unfoldable pub transactions_holders : ℕ → List ℕ → ℕ → List Holder
transactions_holders zero s at = []
transactions_holders (suc k) s at =
    let more = transactions_holders k s (part_end s at) in
    served_holders s at ++ pick (ltb (part_end s at) (length s)) more []

-- ---- the search

-- who holds the text that is wanted, if there is one
abbrev pub Wanted : Type 0
Wanted = StdOption Holder

-- what a search comes to: who holds the text; or it goes on, so many texts further on, behind the parts that end here
abbrev pub Sought : Type 0
Sought = ControlFlow Holder Behind

abbrev pub behind : ℕ → ℕ → Sought
behind k e = Continue (record { left = k; end = e })

-- the holder with this number, or how many are left to pass behind the end
unfoldable pub sought : List Holder → ℕ → ℕ → Sought
sought [] e k = behind k e
sought (x ∷ xs) e zero = Break x
sought (x ∷ xs) e (suc k) = sought xs e k

unfoldable pub closed_sought : List ℕ → Sought → Sought
closed_sought s (Break x) = Break x
closed_sought s (Continue b) = behind b.left (past_sign right_brace s b.end)

unfoldable pub found_in : Sought → Wanted
found_in (Break x) = Some x
found_in (Continue b) = None

unfoldable pub message_sought : List ℕ → ℕ → Wanted
message_sought s k = found_in (sought (transactions_holders 8 s (header_end s)) 0 k)

-- of a message that reads
unfoldable pub where_text : Verdict → List ℕ → ℕ → Wanted
where_text (Ok tt) s k = message_sought s k
where_text (Err e) s k = None

unfoldable pub holder_number : List ℕ → ℕ → Wanted
holder_number s k = where_text (verdict_of (message_r s)) s k

-- ---- what stands there

-- Local at this place, not Remote
unfoldable pub local_at : List ℕ → ℕ → Bool
local_at s at = spells LocalToken (part s at (word_end s at))

unfoldable pub side_there : List ℕ → Wanted → ℕ
side_there s (Some h) = side_number (side_called (local_at s h.item))
side_there s None = 0

-- where the text and the name begin and end; at the message's start where there is none
unfoldable pub text_start : List ℕ → Wanted → ℕ
text_start s (Some h) = octets_start s h.item
text_start s None = 0

unfoldable pub text_end : List ℕ → Wanted → ℕ
text_end s (Some h) = octets_end s h.item
text_end s None = 0

unfoldable pub owner_start : List ℕ → Wanted → ℕ
owner_start s (Some h) = name_start s h.command
owner_start s None = 0

unfoldable pub owner_end : List ℕ → Wanted → ℕ
owner_end s (Some h) = name_end s h.command
owner_end s None = 0

-- where the text with this number begins in the message, and where the name of its termination does
unfoldable pub text_place : List ℕ → ℕ → ℕ
text_place s k = (piece_of s (text_start s (holder_number s k)) (text_end s (holder_number s k))).from

unfoldable pub name_place : List ℕ → ℕ → ℕ
name_place s k = (piece_of s (owner_start s (holder_number s k)) (owner_end s (holder_number s k))).from

-- these bytes stand in the message at this place: so do each text and each name (proofs/StandLaws)
pub record StandsAt (s : List ℕ) (at : ℕ) (t : List ℕ) : Type 0 where
  pub within : at + length t ≤ length s
  pub bytes : part s at (at + length t) ≡ t

-- ---- as numbers, for C: of a message that a call can take, "of 0 or over 4,096 bytes" being turned down; 0 of any other

unfoldable pub if_taken : List ℕ → ℕ → ℕ
if_taken s n = pick (ltb 4096 (length s)) 0 n

-- a part of the message: its place in the high 32 bits, its length in the low 32
unfoldable pub part_number : ℕ → List ℕ → ℕ
part_number at t = at * 4294967296 + length t

unfoldable pub text_part : List ℕ → ℕ → ℕ
text_part s k = if_taken s (part_number (text_place s k) (bytes_of (text_number s k)))

unfoldable pub name_part : List ℕ → ℕ → ℕ
name_part s k = if_taken s (part_number (name_place s k) (name_of (text_number s k)))

unfoldable pub side_given : List ℕ → ℕ → ℕ
side_given s k = if_taken s (side_of (text_number s k))

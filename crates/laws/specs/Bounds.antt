-- What holds of every call: how long a reply can be, and what is left as it was. Proved in proofs/Theorems.antt: `bounds`.
use Rattle.std.specs.Prelude.{ℕ, suc, ◌≤◌, ◌≡◌, ◌≢◌, true, false, List, [], ◌∷◌, length, take, drop}
use Rattle.base.specs.Pick.{pick}
use Rattle.base.specs.Bytes.{◌then◌}
use Rattle.protocol.specs.Types.{Ack}
use Rattle.megaco.specs.Tree.{Action, transaction, Part, request, acknowledge, Message, well_formed, fault400, fault403, fault406}
use Rattle.megaco.specs.Reading.{message_r, sender_of}
use Rattle.megaco.specs.Reply.{Acted, transaction_text, header_text}
use Rattle.megaco.specs.State.{State}
use Rattle.megaco.specs.Room.{Room, room_sound}
use Rattle.megaco.specs.Message.{Served, run_message}
use Rattle.megaco.specs.Call.{Called, call}

abbrev pub largest : ℕ
largest = 4294967295

-- at most k transactions and acknowledgements, with identifiers of 32 bits
pub data Few : ℕ → List Part → Type 0 where
  few_none : {k : ℕ} → Few k []
  few_request : {k id : ℕ} {acts : List Action} {xs : List Part} → id ≤ largest → Few k xs → Few (suc k) (request (transaction id acts) ∷ xs)
  few_ack : {k : ℕ} {ks : List Ack} {xs : List Part} → Few k xs → Few (suc k) (acknowledge ks ∷ xs)

-- the same of a message, and of the identifier in its fault
abbrev pub FewIn : ℕ → Message → Type 0
FewIn k (well_formed xs) = Few k xs
FewIn k fault400 = Unit {0}
FewIn k (fault403 id) = id ≤ largest
FewIn k fault406 = Unit {0}

-- what the message leaves, and the reply to it, header and all: none where it has acknowledgements alone
abbrev pub served_by : List ℕ → State → Room → Served
served_by m st r = run_message (sender_of m) (message_r m) st r

abbrev pub reply_to : List ℕ → State → Room → List ℕ → List ℕ
reply_to m st r own = pick (served_by m st r).told (header_text own then (served_by m st r).text) []

-- "Each gives length 0 and changes neither reply buffer nor table"; "A call turned down leaves the room as it was"
pub record Kept (st : State) (r : Room) (o : List ℕ) (x : Called) : Type 0 where
  pub size : x.size ≡ 0
  pub state : x.state ≡ st
  pub room : x.room ≡ r
  pub reply : x.reply ≡ o

-- "bytes past its length stay": of every call, turned down or taken
pub record Bounded (o : List ℕ) (x : Called) : Type 0 where
  pub long : length x.reply ≡ length o
  pub past : drop x.size x.reply ≡ drop x.size o
  pub fits : x.size ≤ 16640

-- a call that is taken: the state and the room are those that the message leaves, and the reply stands at the start of the buffer, its header first
pub record Taken (m : List ℕ) (st : State) (r : Room) (own o : List ℕ) (x : Called) : Type 0 where
  pub state : x.state ≡ (served_by m st r).state
  pub room : x.room ≡ (served_by m st r).room
  pub size : x.size ≡ length (reply_to m st r own)
  pub whole : take x.size x.reply ≡ reply_to m st r own
  pub header : (served_by m st r).told ≡ true → take (length (header_text own)) x.reply ≡ header_text own
  -- "a message of only K is taken with length 0"
  pub silent : (served_by m st r).told ≡ false → (x.size ≡ 0) × (x.reply ≡ o)

-- ---- all of it

pub record Bounds : Type 0 where
  -- what is read has at most 8 transactions and acknowledgements, each with an identifier of 32 bits
  pub few_read : (m : List ℕ) → FewIn 8 (message_r m)
  -- "If `P=id{..}` would pass 2,048 bytes it becomes `P=id{ER=533{}}`": so no transaction's text is longer
  pub transaction_fits : (id : ℕ) (acts : List Acted) → id ≤ largest → length (transaction_text id acts) ≤ 2048
  -- "reply buffer under 16,640 bytes" is turned down: every reply fits into one of that size
  pub reply_fits : (m : List ℕ) (st : State) (r : Room) (own : List ℕ) → room_sound r ≡ true → length own ≤ 64 → length (reply_to m st r own) ≤ 16640
  pub turned_down : (n : ℕ) (m : List ℕ) (st : State) (r : Room) (own o : List ℕ) → (call n m st r own o).refusal ≢ 0 → Kept st r o (call n m st r own o)
  pub bounded : (n : ℕ) (m : List ℕ) (st : State) (r : Room) (own o : List ℕ) → Bounded o (call n m st r own o)
  pub taken : (n : ℕ) (m : List ℕ) (st : State) (r : Room) (own o : List ℕ) → (call n m st r own o).refusal ≡ 0 → Taken m st r own o (call n m st r own o)
  -- "On a fault nothing runs"
  pub fault_keeps : (n : ℕ) (m : List ℕ) (st : State) (r : Room) (own o : List ℕ) → ((xs : List Part) → message_r m ≢ well_formed xs)
      → ((call n m st r own o).state ≡ st) × ((call n m st r own o).room ≡ r)

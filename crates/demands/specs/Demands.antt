-- The maintainer's three demands, sentence by sentence, each one statement about calls of `gateway::answer` through its promise.
-- Proved in proofs/Theorems.antt: `demand_1`, `demand_2`, `demand_3`; of packets and of repeats, which document 02 adds, `packets`, `repeated`.
use Rattle.std.specs.Prelude.{ℕ, ◌+◌, ◌*◌, ◌≤◌, ◌≡◌, ◌↔◌, ◌≢◌, ◌⊎◌, true, List, [], ◌∷◌, ◌++◌, length, take, drop, Ok}
use Rattle.base.specs.Pick.{pick}
use Rattle.megaco.specs.Tree.{Transaction, Part, request, well_formed, fault400, fault403, fault406}
use Rattle.megaco.specs.Reading.{message_r, sender_of}
use Rattle.megaco.specs.Kept.{Kept}
use Rattle.megaco.specs.Room.{Room, kept_of, room_sound}
use Rattle.megaco.specs.Table.{words, fitted, sound}
use Rattle.megaco.specs.State.{State}
use Rattle.megaco.specs.Reply.{Acted, transaction_text, header_text, error_text, reply_text}
use Rattle.megaco.specs.Transaction.{run_transaction}
use Rattle.megaco.specs.Message.{Served, served, run_parts}
use Rattle.megaco.specs.Call.{call, packet}
use Rattle.grammar.specs.Grammar.{m_id, transaction_request, megaco_message}
use Rattle.grammar.specs.Faults.{Fault403, Fault406}
use Rattle.laws.specs.Membership.{◌∈◌}
use Rattle.laws.specs.Sound.{Whole}
use Rattle.laws.specs.Bounds.{Few}
use Rattle.laws.specs.SoundRoom.{SoundRoom}
use Rattle.laws.specs.KeptReplies.{noted_of, parts_by, PairsApart, SameSet, MixtureKept}
use Rattle.megaco.specs.Blocks.{blocks_are_sound}
use Rattle.laws.specs.Figures.{SoundBlocks}
use Rattle.laws.specs.Packets.{PacketRefusal, Updates}
pub use Rattle.laws.specs.Packets.{LinesFit, StateFits}
use Rattle.laws.specs.Mix.{Mixture, mixed, steps_of, both_fresh}
use Rattle.laws.specs.Apart.{ContextsPlain, NamesPlain, TerminationsApart, ContextsApart}
use Rattle.laws.specs.Demand.{EitherOrder, AsOneAfterOther}
use Rattle.gateway.specs.Answers.{CallOutcome, refusal_number, refusal_of, size_of, Answered, Packed, Counted}

-- a call of `answer` that was made with n lines, the message m, the state st (the table and the blocks), the room r of kept replies, the gateway's own mId and the reply
-- buffer o: the state, the room and the buffer that it left and what it answered, of which its contract promises `Answered`. It has no `requires`
pub record Made (n : ℕ) (m : List ℕ) (st : State) (r : Room) (own o : List ℕ) : Type 0 where
  pub state : State
  pub room : Room
  pub buffer : List ℕ
  pub answer : CallOutcome
  pub promise : Answered (call n m st r own o) state room buffer answer

-- a call of `cordafina_answer`, from C, is such a call with the answer in one number: so all that is said here of calls is said of these
abbrev pub From-C : Type 0
From-C = (n : ℕ) (m : List ℕ) (st : State) (r : Room) (own o : List ℕ) (st' : State) (r' : Room) (o' : List ℕ) (k : ℕ) → Packed (call n m st r own o) st' r' o' k
    → (c : Made n m st r own o) × (c.state ≡ st') × (c.room ≡ r') × (c.buffer ≡ o') × (k ≡ size_of c.answer + 4294967296 * refusal_of c.answer)

-- soundness, which the call tests, as facts about each termination, each context, each block and each kept reply
abbrev pub Soundness : Type 0
Soundness = ((t : List ℕ) → sound t ≡ true ↔ Whole t) × ((b : List ℕ) → blocks_are_sound b ≡ true ↔ SoundBlocks b) × ((r : Room) → room_sound r ≡ true ↔ SoundRoom r)

-- ---- demand 1

-- 'Calls turned down': what must hold of a call that is taken; `LinesFit` and `StateFits` stand with the packets, in laws
abbrev pub BufferFits : List ℕ → Type 0
BufferFits o = 16640 ≤ length o

-- "5, after 2, for room of the wrong size, a kept reply over 2,048 bytes or its mId over 72, a pair kept twice or ages that give no order"
abbrev pub RoomFits : Room → Type 0
RoomFits r = SoundRoom r

abbrev pub OwnFits : List ℕ → Type 0
OwnFits own = m_id own × (length own ≤ 64)

abbrev pub MessageFits : List ℕ → Type 0
MessageFits m = (1 ≤ length m) × (length m ≤ 4096)

-- "Checked in this order": the number of the first condition that does not hold; 0 where all do and the call is taken
pub data Refusal (n : ℕ) (m : List ℕ) (st : State) (r : Room) (own o : List ℕ) : ℕ → Type 0 where
  lines_unfit : ¬ LinesFit n → Refusal n m st r own o 8
  buffer_unfit : LinesFit n → ¬ BufferFits o → Refusal n m st r own o 3
  state_unfit : LinesFit n → BufferFits o → ¬ StateFits n st → Refusal n m st r own o 2
  room_unfit : LinesFit n → BufferFits o → StateFits n st → ¬ RoomFits r → Refusal n m st r own o 5
  own_unfit : LinesFit n → BufferFits o → StateFits n st → RoomFits r → ¬ OwnFits own → Refusal n m st r own o 4
  message_unfit : LinesFit n → BufferFits o → StateFits n st → RoomFits r → OwnFits own → ¬ MessageFits m → Refusal n m st r own o 1
  all_fit : LinesFit n → BufferFits o → StateFits n st → RoomFits r → OwnFits own → MessageFits m → Refusal n m st r own o 0

-- a call that is turned down: "Each gives length 0 and changes neither reply buffer nor table"; "A call turned down leaves the room as it was"
pub record Untouched (st : State) (r : Room) (o : List ℕ) {n : ℕ} {m own : List ℕ} (c : Made n m st r own o) : Type 0 where
  pub size : size_of c.answer ≡ 0
  pub state : c.state ≡ st
  pub room : c.room ≡ r
  pub buffer : c.buffer ≡ o

-- a call that is taken: the reply lies within the buffer, "and bytes past its length stay"; the table is of the same size and sound again, and so are the blocks and the room
pub record InRange (st : State) (r : Room) (o : List ℕ) {n : ℕ} {m own : List ℕ} (c : Made n m st r own o) : Type 0 where
  pub within : size_of c.answer ≤ length o
  pub long : length c.buffer ≡ length o
  pub past : drop (size_of c.answer) c.buffer ≡ drop (size_of c.answer) o
  pub size : length c.state.table ≡ length st.table
  pub again : sound c.state.table ≡ true
  pub blocks_size : length c.state.blocks ≡ length st.blocks
  pub blocks_again : blocks_are_sound c.state.blocks ≡ true
  pub room : room_sound c.room ≡ true

pub record Answers {n : ℕ} {m : List ℕ} {st : State} {r : Room} {own o : List ℕ} (c : Made n m st r own o) : Type 0 where
  -- "it answers as document 01 says"
  pub number : (k : ℕ) → refusal_of c.answer ≡ k ↔ Refusal n m st r own o k
  -- "A call it turns down writes no byte of the reply and no word of the table", nor of the blocks
  pub down : refusal_of c.answer ≢ 0 → Untouched st r o c
  -- "it touches nothing out of range"
  pub taken : refusal_of c.answer ≡ 0 → InRange st r o c

abbrev pub Demand-1 : Type 0
Demand-1 =
    -- "Feed it line noise, a message of one byte, a table somebody trampled, a reply buffer too short": any count and any seven slices.
    -- "Callers check nothing beforehand": no condition. "it ends, it touches nothing out of range": that `answer` is proved at all
    (n : ℕ) (m : List ℕ) (st : State) (r : Room) (own o : List ℕ) (c : Made n m st r own o) → Answers c

-- ---- the same of a packet (document 02, CR 12)

-- a call of `packet`, or of `cordafina_packet` from C, that was made with n lines, the state st, the number k of an ephemeral and the two times: the blocks
-- that it left and the number of what it answered (`packet_answer`), of which both contracts promise `Counted`. The table is lent to be read
pub record MadePacket (n : ℕ) (st : State) (k arrival stamp : ℕ) : Type 0 where
  pub blocks : List ℕ
  pub answer : ℕ
  pub promise : Counted (packet n st k arrival stamp) blocks answer

pub record PacketAnswers {n : ℕ} {st : State} {k arrival stamp : ℕ} (c : MadePacket n st k arrival stamp) : Type 0 where
  -- 8, 2 and 9, each exactly when; 0 where the packet is counted
  pub number : (r : ℕ) → c.answer ≡ r ↔ PacketRefusal n st k r
  -- "nothing changed"
  pub down : c.answer ≢ 0 → c.blocks ≡ st.blocks
  -- its block is updated, and no other changes
  pub taken : c.answer ≡ 0 → Updates st.blocks c.blocks k arrival stamp

abbrev pub Packets : Type 0
Packets = (n : ℕ) (st : State) (k arrival stamp : ℕ) (c : MadePacket n st k arrival stamp) → PacketAnswers c

-- ---- demand 2

-- "`!/1 `, own mId, one space", and a text behind it
abbrev pub reply_with : List ℕ → List ℕ → List ℕ
reply_with own x = header_text own ++ x

-- the whole reply to a message; none where it holds acknowledgements alone: "a message of only K is taken with length 0"
abbrev pub whole_reply : List ℕ → Served → List ℕ
whole_reply own x = pick x.told (reply_with own x.text) []

-- what a call replied
abbrev pub reply_of : {n : ℕ} {m : List ℕ} {st : State} {r : Room} {own o : List ℕ} → Made n m st r own o → List ℕ
reply_of c = take (size_of c.answer) c.buffer

-- the call was taken and left this state, this room and this text: "a reply is written from the start of the buffer, and bytes past its length stay"
pub record Leaves {n : ℕ} {m : List ℕ} {st : State} {r : Room} {own o : List ℕ} (c : Made n m st r own o) (x : Served) : Type 0 where
  pub answer : c.answer ≡ Ok (length (whole_reply own x))
  pub state : c.state ≡ x.state
  pub room : c.room ≡ x.room
  pub buffer : c.buffer ≡ whole_reply own x ++ drop (length (whole_reply own x)) o

-- each kept reply is one that a transaction gave. Other bytes may stand in a room too, and are given back as they are
abbrev pub Genuine : List Kept → Type 0
Genuine ks = (k : Kept) → k ∈ ks → (acts : List Acted) × (k.reply ≡ transaction_text k.id acts)

-- the rooms that calls lead to from one that keeps nothing
pub data Reached : Room → Type 0 where
  empty : {r : Room} → kept_of r ≡ [] → Reached r
  called : {n : ℕ} {m : List ℕ} {st : State} {r : Room} {own o : List ℕ} → Reached r → (c : Made n m st r own o) → Reached c.room

abbrev pub Reached-Genuine : Type 0
Reached-Genuine = (r : Room) → Reached r → Genuine (kept_of r)

-- "of version 1 and the grammar of H.248.1 Annex B, in the profile of document 01, admits it", with the sender's mId and its parts
abbrev pub Admitted : List ℕ → Type 0
Admitted m = (e : List ℕ) × (ps : List Part) × megaco_message m 1 e ps

-- "Fault elsewhere": none of the others
pub record Fault400 (m : List ℕ) : Type 0 where
  pub not_admitted : ¬ Admitted m
  pub not_403 : (id : ℕ) → ¬ Fault403 m id
  pub not_406 : ¬ Fault406 m

pub record Runs {n : ℕ} {m : List ℕ} {st : State} {r : Room} {own o : List ℕ} (c : Made n m st r own o) : Type 0 where
  -- "The table afterwards and each byte of the reply are then what clauses 6 to 8 and document 01's rules give, command by command"; "Demand 2 reads the
  -- kept replies as state": a request whose pair is kept is answered from the room
  pub gives : (e : List ℕ) (ps : List Part) → megaco_message m 1 e ps → Leaves c (run_parts e ps st r)
  -- what it leaves of the state and the kept replies is told, part by part, by the list of these
  pub by_the_list : (e : List ℕ) (ps : List Part) → megaco_message m 1 e ps → noted_of (run_parts e ps st r) ≡ parts_by e ps st (kept_of r)
  -- the sender, the transactions and the acknowledgements that the grammar finds in a message are the only ones
  pub only : (e f : List ℕ) (ps qs : List Part) → megaco_message m 1 e ps → megaco_message m 1 f qs → (e ≡ f) × (ps ≡ qs)
  -- "On a fault nothing runs": the state is st, the room r, and each answer is given where the grammar calls for it.
  -- "A header .. that reads well with a version other than 1: `ER=406{}`"
  pub on_406 : Fault406 m → Leaves c (served st r (error_text 406) true)
  -- "Fault between a transaction's opening and closing brace, or identifier 0: the reply is `P=id{ER=403{}}` alone"
  pub on_403 : (id : ℕ) → Fault403 m id → Leaves c (served st r (reply_text id (error_text 403)) true)
  -- "Fault elsewhere: `ER=400{}`"
  pub on_400 : Fault400 m → Leaves c (served st r (error_text 400) true)
  -- there is no fifth case
  pub one_of : Admitted m ⊎ Fault406 m ⊎ ((id : ℕ) × Fault403 m id) ⊎ Fault400 m

-- the same as "exactly when", in any room: that the message was run means that it was read as some transactions and acknowledgements and left what these leave
pub record Exactly {n : ℕ} {m : List ℕ} {st : State} {r : Room} {own o : List ℕ} (c : Made n m st r own o) : Type 0 where
  -- "is run exactly when it is of version 1 and the grammar .. admits it"
  pub run : Admitted m ↔ ((ps : List Part) × (message_r m ≡ well_formed ps) × Leaves c (run_parts (sender_of m) ps st r))
  pub on_406 : Fault406 m ↔ ((message_r m ≡ fault406) × Leaves c (served st r (error_text 406) true))
  pub on_403 : (id : ℕ) → Fault403 m id ↔ ((message_r m ≡ fault403 id) × Leaves c (served st r (reply_text id (error_text 403)) true))
  pub on_400 : Fault400 m ↔ ((message_r m ≡ fault400) × Leaves c (served st r (error_text 400) true))

-- the same told from what the call left alone, where each kept reply is one that a transaction gave: that the message was run means that it left what some
-- transactions and acknowledgements, at most 8, leave
pub record Told {n : ℕ} {m : List ℕ} {st : State} {r : Room} {own o : List ℕ} (c : Made n m st r own o) : Type 0 where
  -- "is run exactly when it is of version 1 and the grammar .. admits it"
  pub run : Admitted m ↔ ((ps : List Part) × Few 8 ps × Leaves c (run_parts (sender_of m) ps st r))
  pub on_406 : Fault406 m ↔ Leaves c (served st r (error_text 406) true)
  pub on_403 : (id : ℕ) → Fault403 m id ↔ Leaves c (served st r (reply_text id (error_text 403)) true)
  pub on_400 : Fault400 m ↔ Leaves c (served st r (error_text 400) true)
  -- and of the room that the call leaves this holds again
  pub again : Genuine (kept_of c.room)

abbrev pub Demand-2 : Type 0
Demand-2 =
    -- "A message not turned down"
    (n : ℕ) (m : List ℕ) (st : State) (r : Room) (own o : List ℕ) (c : Made n m st r own o) → refusal_of c.answer ≡ 0
    -- "is run exactly when .. admits it. The table afterwards and each byte of the reply are then what .. give"
    → Runs c × Exactly c × (Genuine (kept_of r) → Told c)

-- ---- a repeat (document 02, CR 3)

-- two calls in a row with the same message: the second is taken and leaves the table, the blocks and the room as the first left them; both replies are the same bytes
pub record Twice {n : ℕ} {m : List ℕ} {st : State} {r : Room} {own o₁ o₂ : List ℕ} (a : Made n m st r own o₁) (b : Made n m a.state a.room own o₂) : Type 0 where
  pub taken : refusal_of b.answer ≡ 0
  pub state : b.state ≡ a.state
  pub room : b.room ≡ a.room
  pub answer : b.answer ≡ a.answer
  pub reply : reply_of b ≡ reply_of a

-- "Answer a repeat, don't run it twice": a message of one transaction, from any state and room
abbrev pub Repeated : Type 0
Repeated =
    (n : ℕ) (m e : List ℕ) (x : Transaction) → megaco_message m 1 e (request x ∷ []) → (st : State) (r : Room) (own o₁ o₂ : List ℕ) (a : Made n m st r own o₁)
    → refusal_of a.answer ≡ 0 → BufferFits o₂ → (b : Made n m a.state a.room own o₂) → Twice a b

-- ---- demand 3

-- "a transaction is well-formed when it reads as above with no fault, its identifier too"
pub record WellFormed (x : Transaction) : Type 0 where
  pub bytes : List ℕ
  pub derives : transaction_request bytes x

-- x is sent by s and y by t
pub record Conditions (st : State) (ks : List Kept) (s t : List ℕ) (x y : Transaction) : Type 0 where
  -- "Take any sound table to start from"
  pub start : sound st.table ≡ true
  -- "and any two well-formed transactions"
  pub formed_one : WellFormed x
  pub formed_two : WellFormed y
  -- "that name every context by number or as the null one"
  pub contexts_one : ContextsPlain x
  pub contexts_two : ContextsPlain y
  -- "and every termination without `*` or `$`"
  pub names_one : NamesPlain x
  pub names_two : NamesPlain y
  -- "Say that no termination is named by both"
  pub terminations : TerminationsApart (fitted st.table) x y
  -- "Say that the numbered contexts each names, with the numbered ones its terminations stand in at the start, are apart from the other's"
  pub contexts : ContextsApart st.table x y
  -- "the two pairs differ and neither is kept at the start"
  pub pairs : PairsApart s t x y ks

-- the messages m and k hold the transactions x and y alone, of the senders s and t, and can be sent to a gateway of n lines
pub record Sent (n : ℕ) (st : State) (r : Room) (own m k s t : List ℕ) (x y : Transaction) : Type 0 where
  pub one : megaco_message m 1 s (request x ∷ [])
  pub two : megaco_message k 1 t (request y ∷ [])
  pub size_one : MessageFits m
  pub size_two : MessageFits k
  pub lines : length st.table ≡ words n
  pub blocks : blocks_are_sound st.blocks ≡ true
  pub room : room_sound r ≡ true
  pub own_fits : OwnFits own

-- "ends alike in both orders", of four calls: m and then k, with the answers a and b; k and then m, with c and d
pub record Alike {n : ℕ} {m k : List ℕ} {st : State} {r : Room} {own o₁ o₂ o₃ o₄ : List ℕ}
    (a : Made n m st r own o₁) (b : Made n k a.state a.room own o₂) (c : Made n k st r own o₃) (d : Made n m c.state c.room own o₄) : Type 0 where
  -- none is turned down
  pub taken : (refusal_of a.answer ≡ 0) × (refusal_of b.answer ≡ 0) × (refusal_of c.answer ≡ 0) × (refusal_of d.answer ≡ 0)
  -- "the same in every word of the table", and in every word of the blocks, which are those of the start (document 02, CR 12)
  pub blocks : b.state.blocks ≡ st.blocks
  pub state : b.state ≡ d.state
  -- "the kept replies are then the same set, their age may differ"
  pub kept : SameSet (kept_of b.room) (kept_of d.room)
  -- "and each transaction's reply the same byte for byte": the answer with the reply's length, and the reply
  pub answer_one : a.answer ≡ d.answer
  pub answer_two : b.answer ≡ c.answer
  pub reply_one : reply_of a ≡ reply_of d
  pub reply_two : reply_of b ≡ reply_of c
  -- and the whole buffers, where they were the same before
  pub buffer_one : o₁ ≡ o₄ → a.buffer ≡ d.buffer
  pub buffer_two : o₂ ≡ o₃ → b.buffer ≡ c.buffer

pub record Orders (st : State) (ks : List Kept) (s t : List ℕ) (x y : Transaction) : Type 0 where
  -- "running one after the other from that table ends alike in both orders": `run_transaction`'s states and `P=id{..}`, 533 included
  pub transactions : EitherOrder st x y
  -- "Table and replies are those that demand 2 defines": four calls, whatever the buffers hold. "The second starts from the table the first left"
  pub calls : (n : ℕ) (r : Room) → kept_of r ≡ ks → (own m k : List ℕ) → Sent n st r own m k s t x y
      → (o₁ o₂ o₃ o₄ : List ℕ) → BufferFits o₁ → BufferFits o₂ → BufferFits o₃ → BufferFits o₄
      → (a : Made n m st r own o₁) (b : Made n k a.state a.room own o₂) (c : Made n k st r own o₃) (d : Made n m c.state c.room own o₄) → Alike a b c d
  -- document 02, CR 13: "in any mixture that keeps each one's own order". "Kept replies (CR 3) agree as a set"
  pub mixture : (z : Mixture (steps_of x) (steps_of y)) → AsOneAfterOther st x y (mixed z (both_fresh st)) × MixtureKept s t x y st ks (mixed z (both_fresh st))

abbrev pub Demand-3 : Type 0
Demand-3 =
    -- "Then, whatever commands the two hold and whichever of these fail": no other condition
    (st : State) (ks : List Kept) (s t : List ℕ) (x y : Transaction) → Conditions st ks s t x y → Orders st ks s t x y

-- it is not empty: two messages, sent to a gateway in use, that meet every condition and of which each changes the table
pub record Pair : Type 0 where
  pub lines : ℕ
  pub state : State
  pub room : Room
  pub own : List ℕ
  pub one : List ℕ
  pub two : List ℕ
  pub x : Transaction
  pub y : Transaction
  pub conditions : Conditions state (kept_of room) (sender_of one) (sender_of two) x y
  pub sent : Sent lines state room own one two (sender_of one) (sender_of two) x y
  pub changes_one : (run_transaction x state).state.table ≢ state.table
  pub changes_two : (run_transaction y state).state.table ≢ state.table

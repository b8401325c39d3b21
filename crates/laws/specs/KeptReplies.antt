-- The kept replies (document 02, CR 3) as a list, and what is proved of them. Proved in proofs/Theorems.antt: `kept-replies`.
use Rattle.std.specs.Prelude.{ℕ, ◌≤◌, ◌≡◌, ◌↔◌, Bool, true, false, ◌||◌, List, [], ◌∷◌, length, replicate}
use Rattle.std.proofs.Math.Option.{Option, none, some}
use Rattle.base.specs.Bytes.{◌then◌}
use Rattle.protocol.specs.Types.{Ack}
use Rattle.megaco.specs.Tree.{Transaction, Part, request, acknowledge, Message, well_formed, fault400, fault403, fault406}
use Rattle.megaco.specs.Reading.{message_r, sender_of}
use Rattle.megaco.specs.Table.{sound}
use Rattle.megaco.specs.State.{State}
use Rattle.megaco.specs.Kept.{Kept, kept_under, find, keep, acked, without}
use Rattle.megaco.specs.Room.{Room, room, kept_of, room_sound}
use Rattle.megaco.specs.Reply.{error_text, reply_text}
use Rattle.megaco.specs.Transaction.{run_transaction}
use Rattle.megaco.specs.Message.{Served, identifier, run_parts, run_message}
use Rattle.megaco.specs.Call.{call}
use Rattle.laws.specs.SoundRoom.{SoundRoom}
use Rattle.laws.specs.Membership.{◌∈◌}
use Rattle.laws.specs.Bounds.{Few}
use Rattle.laws.specs.Apart.{Apart}
use Rattle.laws.specs.Mix.{Both, Mixture, mixed, steps_of, both_fresh}
use Rattle.laws.specs.Demand.{reply_of}

-- ---- a message run over the list of kept replies: "Demand 2 reads the kept replies as state"

-- what a part of a message makes of the state and the kept replies
pub record Noted : Type 0 where
  pub state : State
  pub kept : List Kept
  pub text : List ℕ
  pub told : Bool

abbrev pub noted : State → List Kept → List ℕ → Bool → Noted
noted st ks x b = record { state = st; kept = ks; text = x; told = b }

-- the same of a run with the room
abbrev pub noted_of : Served → Noted
noted_of x = noted x.state (kept_of x.room) x.text x.told

unfoldable pub answered_by : List ℕ → Transaction → State → List Kept → Option (List ℕ) → Noted
answered_by m x st ks (some reply) = noted st ks reply true
answered_by m x st ks none = let y = run_transaction x st in noted y.state (keep (kept_under m (identifier x) y.text) ks) y.text true

unfoldable pub without_all : List ℕ → List Ack → List Kept → List Kept
without_all m [] ks = ks
without_all m (a ∷ acks) ks = without_all m acks (without (acked m a.first a.last) ks)

unfoldable pub part_by : List ℕ → Part → State → List Kept → Noted
part_by m (request x) st ks = answered_by m x st ks (find m (identifier x) ks)
part_by m (acknowledge acks) st ks = noted st (without_all m acks ks) [] false

unfoldable pub parts_by : List ℕ → List Part → State → List Kept → Noted
parts_by m [] st ks = noted st ks [] false
parts_by m (p ∷ ps) st ks =
    let y = part_by m p st ks in
    let z = parts_by m ps y.state y.kept in noted z.state z.kept (y.text then z.text) (y.told || z.told)

unfoldable pub message_by : List ℕ → Message → State → List Kept → Noted
message_by m (well_formed ps) st ks = parts_by m ps st ks
message_by m fault400 st ks = noted st ks (error_text 400) true
message_by m (fault403 id) st ks = noted st ks (reply_text id (error_text 403)) true
message_by m fault406 st ks = noted st ks (error_text 406) true

-- ---- demand 3's addition

-- "both are T"; "the two pairs differ and neither is kept at the start": x of the sender m, y of the sender n
pub record PairsApart (m n : List ℕ) (x y : Transaction) (ks : List Kept) : Type 0 where
  pub one : find m (identifier x) ks ≡ none
  pub two : find n (identifier y) ks ≡ none
  pub differ : m ≡ n → identifier x ≡ identifier y → ⊥

-- "the kept replies are then the same set, their age may differ": each kept reply of the one, with its pair and its bytes, is kept in the other, and
-- as many are
pub record SameSet (xs ys : List Kept) : Type 0 where
  pub into : (k : Kept) → k ∈ xs → k ∈ ys
  pub back : (k : Kept) → k ∈ ys → k ∈ xs
  pub many : length xs ≡ length ys

-- one request each, in both orders
pub record EitherOrderKept (m n : List ℕ) (x y : Transaction) (st : State) (ks : List Kept) : Type 0 where
  pub state : let a = part_by m (request x) st ks in
      let b = part_by n (request y) st ks in (part_by n (request y) a.state a.kept).state ≡ (part_by m (request x) b.state b.kept).state
  -- the blocks are those that they started with
  pub blocks : let a = part_by m (request x) st ks in (part_by n (request y) a.state a.kept).state.blocks ≡ st.blocks
  pub reply_one : let b = part_by n (request y) st ks in (part_by m (request x) st ks).text ≡ (part_by m (request x) b.state b.kept).text
  pub reply_two : let a = part_by m (request x) st ks in (part_by n (request y) a.state a.kept).text ≡ (part_by n (request y) st ks).text
  pub kept : let a = part_by m (request x) st ks in
      let b = part_by n (request y) st ks in SameSet (part_by n (request y) a.state a.kept).kept (part_by m (request x) b.state b.kept).kept

-- what a mixture keeps, where the first, or the second, ends first
abbrev pub kept_one : List ℕ → Transaction → Both → Kept
kept_one m x b = kept_under m (identifier x) (reply_of x b.one)

abbrev pub kept_two : List ℕ → Transaction → Both → Kept
kept_two n y b = kept_under n (identifier y) (reply_of y b.two)

pub record MixtureKept (m n : List ℕ) (x y : Transaction) (st : State) (ks : List Kept) (b : Both) : Type 0 where
  pub first_ends : let a = part_by m (request x) st ks in SameSet (keep (kept_two n y b) (keep (kept_one m x b) ks)) (part_by n (request y) a.state a.kept).kept
  pub second_ends : let a = part_by m (request x) st ks in SameSet (keep (kept_one m x b) (keep (kept_two n y b) ks)) (part_by n (request y) a.state a.kept).kept

-- ---- all of it

pub record KeptReplies : Type 0 where
  -- the test that a call makes holds exactly where the facts do
  pub tested : (r : Room) → room_sound r ≡ true ↔ SoundRoom r
  -- a room of zeros is sound and keeps nothing
  pub empty : (room_sound (room (replicate 64 0) (replicate 33920 0)) ≡ true) × (kept_of (room (replicate 64 0) (replicate 33920 0)) ≡ [])
  -- the sender's mId fits into its place in the room
  pub sender_fits : (m : List ℕ) → length (sender_of m) ≤ 72
  -- a sound room stays sound
  pub call_keeps : (n : ℕ) (m : List ℕ) (st : State) (r : Room) (own o : List ℕ) → room_sound r ≡ true → room_sound (call n m st r own o).room ≡ true
  -- "Keep the last 16 replies": never more are kept
  pub sixteen : (r : Room) → length (kept_of r) ≤ 16
  -- what a message makes of a sound room is told by the kept replies alone
  pub by_the_list : (m : List ℕ) (st : State) (r : Room) → room_sound r ≡ true → noted_of (run_message (sender_of m) (message_r m) st r) ≡ message_by (sender_of m) (message_r m) st (kept_of r)
  -- the same part by part, of any transactions and acknowledgements with identifiers of 32 bits, however many, and any sender whose mId fits
  pub parts_by_the_list : (m : List ℕ) → length m ≤ 72 → (k : ℕ) (ps : List Part) → Few k ps → (st : State) (r : Room) → room_sound r ≡ true
      → noted_of (run_parts m ps st r) ≡ parts_by m ps st (kept_of r)
  -- "Answer a repeat, don't run it twice": a message of one transaction, sent again, leaves the state and the room as they were and is answered with the same text
  pub repeated : (m : List ℕ) (x : Transaction) → message_r m ≡ well_formed (request x ∷ []) → (st : State) (r : Room) → room_sound r ≡ true
      → let y = run_message (sender_of m) (message_r m) st r in run_message (sender_of m) (message_r m) y.state y.room ≡ y
  -- two transactions that are apart, their pairs too, in both orders
  pub either_order : (m n : List ℕ) (x y : Transaction) (st : State) (ks : List Kept) → sound st.table ≡ true → Apart st.table x y → PairsApart m n x y ks → EitherOrderKept m n x y st ks
  -- "Kept replies (CR 3) agree as a set", in any mixture
  pub any_mixture : (m n : List ℕ) (x y : Transaction) (st : State) (ks : List Kept) → sound st.table ≡ true → Apart st.table x y → PairsApart m n x y ks
      → (z : Mixture (steps_of x) (steps_of y)) → MixtureKept m n x y st ks (mixed z (both_fresh st))

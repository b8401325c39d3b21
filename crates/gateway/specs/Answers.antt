-- Document 01's number and values for each answer of the call.
use Rattle.std.specs.Prelude.{ℕ, ◌+◌, ◌*◌, ◌≡◌, List, Ok, Err, ⊤}
use Rattle.megaco.specs.State.{State}
use Rattle.megaco.specs.Room.{Room}
use Rattle.megaco.specs.Call.{Called, Received}
use Rattle.std.specs.declared.result.Result.{Result}
use Rattle.gateway.specs.declared.PacketRefusal.{PacketRefusal}
use Rattle.gateway.specs.declared.PacketRefusal.TheVariants as packet
use Rattle.gateway.specs.declared.Refusal.{Refusal}
use Rattle.gateway.specs.declared.Refusal.TheVariants.{MessageUnfit, TableUnsound, ReplyTooShort, MidUnfit, RoomUnsound, LinesUnfit}

-- what a call answers: the reply's length, or why it was turned down
abbrev pub CallOutcome : Type 0
CallOutcome = Result ℕ Refusal

-- 'Calls turned down': the number of each
unfoldable pub refusal_number : Refusal → ℕ
refusal_number MessageUnfit = 1
refusal_number TableUnsound = 2
refusal_number ReplyTooShort = 3
refusal_number MidUnfit = 4
refusal_number RoomUnsound = 5
refusal_number LinesUnfit = 8

-- 0 for a call that is taken
unfoldable pub refusal_of : CallOutcome → ℕ
refusal_of (Ok n) = 0
refusal_of (Err e) = refusal_number e

-- the reply's length: "Each gives length 0"
unfoldable pub size_of : CallOutcome → ℕ
size_of (Ok n) = n
size_of (Err e) = 0

-- an answer, the state and the room made of the lent slices and the reply buffer after the call are those of the definition
pub record Answered (c : Called) (t' : State) (r' : Room) (o' : List ℕ) (r : CallOutcome) : Type 0 where
  pub refusal : refusal_of r ≡ c.refusal
  pub size : size_of r ≡ c.size
  pub state : t' ≡ c.state
  pub room : r' ≡ c.room
  pub reply : o' ≡ c.reply

-- the answer as one number of 64 bits: the length in the low 32, the refusal in the high 32
unfoldable pub number_of : CallOutcome → ℕ
number_of a = size_of a + 4294967296 * refusal_of a

-- the same with that number
pub record Packed (c : Called) (t' : State) (r' : Room) (o' : List ℕ) (r : ℕ) : Type 0 where
  pub answer : r ≡ c.size + 4294967296 * c.refusal
  pub state : t' ≡ c.state
  pub room : r' ≡ c.room
  pub reply : o' ≡ c.reply

-- what a message that is taken leaves: the same of its reply's length
pub record Replied (c : Called) (t' : State) (r' : Room) (o' : List ℕ) (n : ℕ) : Type 0 where
  pub size : n ≡ c.size
  pub state : t' ≡ c.state
  pub room : r' ≡ c.room
  pub reply : o' ≡ c.reply

-- the number of a packet's refusal, and 0 for one that is counted
unfoldable pub packet_refusal : PacketRefusal → ℕ
packet_refusal packet.TableUnsound = 2
packet_refusal packet.LinesUnfit = 8
packet_refusal packet.EphemeralAbsent = 9

unfoldable pub packet_answer : Result ⊤ PacketRefusal → ℕ
packet_answer (Ok tt) = 0
packet_answer (Err e) = packet_refusal e

-- the answer to a packet and the blocks after it
pub record Counted (c : Received) (b' : List ℕ) (r : ℕ) : Type 0 where
  pub refusal : r ≡ c.refusal
  pub blocks : b' ≡ c.blocks

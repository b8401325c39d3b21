-- Running a message (document 01, 'Running'; document 02, CR 3): its transactions and acknowledgements in order, with the kept replies. A transaction
-- itself sees the state alone, never the room.
use Rattle.std.specs.Prelude.{ℕ, Bool, true, false, ◌||◌, List, [], ◌∷◌}
use Rattle.std.proofs.Math.Option.{Option, none, some}
use Rattle.base.specs.Bytes.{◌then◌}
use Rattle.megaco.specs.declared.Ack.{Ack}
use Rattle.megaco.specs.Tree.{Transaction, transaction, Part, request, acknowledge, Message, well_formed, fault400, fault403, fault406}
use Rattle.megaco.specs.State.{State}
use Rattle.megaco.specs.Kept.{kept_under, find, acked}
use Rattle.megaco.specs.Room.{Room, kept_of, keep_in, drop_in}
use Rattle.megaco.specs.Reply.{error_text, reply_text}
use Rattle.megaco.specs.Transaction.{run_transaction}

-- what a part of a message leaves: the state, the room and the text; `told` where there is a reply at all
pub record Served : Type 0 where
  pub state : State
  pub room : Room
  pub text : List ℕ
  pub told : Bool

abbrev pub served : State → Room → List ℕ → Bool → Served
served st r x b = record { state = st; room = r; text = x; told = b }

unfoldable pub identifier : Transaction → ℕ
identifier (transaction id acts) = id

-- "a request whose pair is kept gets the same bytes and the table stays"; the reply of a transaction that ran is kept
unfoldable pub answered : List ℕ → Transaction → State → Room → Option (List ℕ) → Served
answered m x st r (some reply) = served st r reply true
answered m x st r none = let y = run_transaction x st in served y.state (keep_in (kept_under m (identifier x) y.text) r) y.text true

-- "drops that sender's replies", in the order written
unfoldable pub drop_all : List ℕ → List Ack → Room → Room
drop_all m [] r = r
drop_all m (a ∷ ks) r = drop_all m ks (drop_in (acked m a.first a.last) r)

-- one of the eight, of the sender m
unfoldable pub run_part : List ℕ → Part → State → Room → Served
run_part m (request x) st r = answered m x st r (find m (identifier x) (kept_of r))
run_part m (acknowledge ks) st r = served st (drop_all m ks r) [] false

unfoldable pub run_parts : List ℕ → List Part → State → Room → Served
run_parts m [] st r = served st r [] false
run_parts m (p ∷ ps) st r =
    let y = run_part m p st r in
    let z = run_parts m ps y.state y.room in served z.state z.room (y.text then z.text) (y.told || z.told)

-- "The whole message is read before anything runs. On a fault nothing runs"
unfoldable pub run_message : List ℕ → Message → State → Room → Served
run_message m (well_formed ps) st r = run_parts m ps st r
run_message m fault400 st r = served st r (error_text 400) true
run_message m (fault403 id) st r = served st r (reply_text id (error_text 403)) true
run_message m fault406 st r = served st r (error_text 406) true

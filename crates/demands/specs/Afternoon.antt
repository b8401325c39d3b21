-- The maintainer's afternoon (document 02, request 1): a message that is answered with 400, 403 or 406 changes nothing of what may be asked after it,
-- told by the bytes of the reply. Proved in proofs/Afternoon.antt.
use Rattle.std.specs.Prelude.{ℕ, ◌≡◌, List}
use Rattle.megaco.specs.State.{State}
use Rattle.megaco.specs.Room.{Room, kept_of}
use Rattle.megaco.specs.Reply.{error_text, reply_text}
use Rattle.gateway.specs.Answers.{refusal_of, size_of}
use Rattle.demands.specs.Demands.{Made, reply_with, reply_of, Genuine}

-- a call that was answered with 400, 406 or `P=id{ER=403{}}`
pub data Faulted {n : ℕ} {m : List ℕ} {st : State} {r : Room} {own o : List ℕ} (c : Made n m st r own o) : Type 0 where
  with_400 : reply_of c ≡ reply_with own (error_text 400) → Faulted c
  with_406 : reply_of c ≡ reply_with own (error_text 406) → Faulted c
  with_403 : (id : ℕ) → reply_of c ≡ reply_with own (reply_text id (error_text 403)) → Faulted c

-- two calls that answer, leave and reply alike
pub record SameAs {n₁ n₂ : ℕ} {m₁ m₂ : List ℕ} {st₁ st₂ : State} {r₁ r₂ : Room} {own₁ own₂ o₁ o₂ : List ℕ} (a : Made n₁ m₁ st₁ r₁ own₁ o₁) (b : Made n₂ m₂ st₂ r₂ own₂ o₂) : Type 0 where
  pub refusal : refusal_of a.answer ≡ refusal_of b.answer
  pub size : size_of a.answer ≡ size_of b.answer
  pub state : a.state ≡ b.state
  pub room : a.room ≡ b.room
  pub buffer : a.buffer ≡ b.buffer

-- after it any message k, an audit or another, is answered as it would have been before it, from the state st and the room r, where each kept reply is one that
-- a transaction gave
abbrev pub Afternoon : Type 0
Afternoon =
    (n : ℕ) (m : List ℕ) (st : State) (r : Room) (own o : List ℕ) (c : Made n m st r own o) → Genuine (kept_of r) → refusal_of c.answer ≡ 0 → Faulted c
    → (c.state ≡ st) × (c.room ≡ r) × ((k o' : List ℕ) (b : Made n k c.state c.room own o') (d : Made n k st r own o') → SameAs b d)

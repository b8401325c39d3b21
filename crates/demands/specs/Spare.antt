-- A spare that comes up from a row (document 02, CR 14): "Kept replies and blocks are not in it, the spare lends empty ones; demands 2 and 3 start anew
-- from it". Proved in proofs/Spare.antt: `spare`.
use Rattle.std.specs.Prelude.{ℕ, ◌≡◌, List, Ok}
use Rattle.megaco.specs.Tree.{Transaction}
use Rattle.megaco.specs.Table.{fitted}
use Rattle.megaco.specs.Room.{kept_of}
use Rattle.megaco.specs.Message.{identifier}
use Rattle.laws.specs.Apart.{ContextsPlain, NamesPlain, TerminationsApart, ContextsApart}
use Rattle.gateway.specs.Answers.{refusal_of}
use Rattle.row_laws.specs.Answers.{Read}
use Rattle.row_laws.specs.Carried.{spare_state, spare_room}
use Rattle.demands.specs.Demands.{Made, BufferFits, OwnFits, MessageFits, Runs, Exactly, Told, WellFormed, Orders}

-- demand 3's conditions on the two transactions, x sent by s and y by t, with the table u: those on the start are left out
pub record Two (u s t : List ℕ) (x y : Transaction) : Type 0 where
  pub formed_one : WellFormed x
  pub formed_two : WellFormed y
  pub contexts_one : ContextsPlain x
  pub contexts_two : ContextsPlain y
  pub names_one : NamesPlain x
  pub names_two : NamesPlain y
  pub terminations : TerminationsApart (fitted u) x y
  pub contexts : ContextsApart u x y
  -- "the two pairs differ"
  pub pairs : s ≡ t → identifier x ≡ identifier y → ⊥

-- a gateway of n lines with the table u, empty blocks and an empty room
pub record StartsAnew (n : ℕ) (u : List ℕ) : Type 0 where
  -- a call is turned down for its buffer, its own mId or its message alone
  pub taken : (m own o : List ℕ) (c : Made n m (spare_state u) spare_room own o) → BufferFits o → OwnFits own → MessageFits m → refusal_of c.answer ≡ 0
  -- demand 2, with no condition on the room
  pub second : (m own o : List ℕ) (c : Made n m (spare_state u) spare_room own o) → refusal_of c.answer ≡ 0 → Runs c × Exactly c × Told c
  -- demand 3, with no condition on the start
  pub third : (s t : List ℕ) (x y : Transaction) → Two u s t x y → Orders (spare_state u) (kept_of spare_room) s t x y

-- a table u that was read from the bytes b, whatever stood there before
abbrev pub Spare : Type 0
Spare = (n : ℕ) (b z u : List ℕ) (k : ℕ) → Read n b z u (Ok k) → StartsAnew n u

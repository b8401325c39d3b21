-- RTP statistics (document 02, CR 12): sound blocks, and what messages do to them. Packets are the page Packets. Proved in
-- proofs/Theorems.antt: `figures-kept`.
use Rattle.std.specs.Prelude.{ℕ, ◌+◌, ◌≤◌, ◌<◌, ◌≡◌, ◌↔◌, Bool, true, List, [], ◌∷◌, length, replicate}
use Rattle.protocol.specs.Types.{Context, Op, Add, Values}
use Rattle.megaco.specs.Table.{Write, ephemerals, line_terminations, fitted, ctx, get}
use Rattle.megaco.specs.Blocks.{block_words, block_at, no_packets, most_jitter, blocks_are_sound}
use Rattle.megaco.specs.State.{State, wrote}
use Rattle.megaco.specs.Command.{Outcome, attempts}
use Rattle.megaco.specs.Room.{Room}
use Rattle.megaco.specs.Call.{call}
use Rattle.megaco.specs.declared.Block.{Block}

-- not sound: "one with J over 2^35 or with no packets and not zero"
pub record SoundBlock (x : Block) : Type 0 where
  pub low : x.jitter ≤ most_jitter
  pub zero : x.packets ≡ 0 → x ≡ no_packets

-- "other than 64 blocks"
pub record SoundBlocks (b : List ℕ) : Type 0 where
  pub long : length b ≡ block_words
  pub each : (k : ℕ) → k < ephemerals → SoundBlock (block_at k b)

-- ---- messages

-- one attempt of a command, at the termination `number`
pub record Attempt : Type 0 where
  pub op : Op
  pub wild : Bool
  pub name : List ℕ
  pub given : ℕ
  pub values : Values
  pub number : ℕ
  pub at : Context

abbrev pub attempted : Attempt → State → Outcome
attempted a st = attempts a.op a.wild a.name a.given a.values (a.number ∷ []) a.at st

-- it is at `R/(k + 1)`, the ephemeral of block k
abbrev pub Meets : Attempt → State → ℕ → Type 0
Meets a st k = a.number ≡ line_terminations (fitted st.table) + k

-- it is an Add of `R/(k + 1)`, and succeeds
abbrev pub Adds : Attempt → State → ℕ → Type 0
Adds a st k = (a.op ≡ Add) × Meets a st k × ((attempted a st).going ≡ true)

-- "a new ephemeral starts at zero; no message changes a block otherwise": block k is set to zero where `R/(k + 1)` is added, which was absent, and
-- else stays as it was
pub record OneAttempt (a : Attempt) (st : State) (k : ℕ) : Type 0 where
  pub absent : Adds a st k → get st.table (ctx a.number) ≡ 0
  pub zeroed : Adds a st k → block_at k (attempted a st).state.blocks ≡ no_packets
  pub stays : ¬ Adds a st k → block_at k (attempted a st).state.blocks ≡ block_at k st.blocks

-- the states that attempts, and actions' starts, which write to the table alone, lead to
pub data Reached (st : State) : State → Type 0 where
  here : Reached st st
  tried : {u : State} → Reached st u → (a : Attempt) → Reached st (attempted a u).state
  began : {u : State} → Reached st u → (ws : List Write) → Reached st (wrote ws u)

-- ---- all of it

pub record FiguresKept : Type 0 where
  -- the test that a call makes holds exactly where the facts do
  pub tested : (b : List ℕ) → blocks_are_sound b ≡ true ↔ SoundBlocks b
  pub fresh : blocks_are_sound (replicate block_words 0) ≡ true
  -- what an attempt does to each of the 64 blocks, and that a call does nothing else to them
  pub one_attempt : (a : Attempt) (st : State) (k : ℕ) → length st.blocks ≡ block_words → k < ephemerals → OneAttempt a st k
  pub reached : (n : ℕ) (m : List ℕ) (st : State) (r : Room) (own o : List ℕ) → Reached st (call n m st r own o).state
  -- a call keeps sound blocks sound, and as many words, sound or not
  pub call_keeps : (n : ℕ) (m : List ℕ) (st : State) (r : Room) (own o : List ℕ) → blocks_are_sound st.blocks ≡ true → blocks_are_sound (call n m st r own o).state.blocks ≡ true
  pub call_length : (n : ℕ) (m : List ℕ) (st : State) (r : Room) (own o : List ℕ) → length (call n m st r own o).state.blocks ≡ length st.blocks

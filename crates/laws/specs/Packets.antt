-- Packets (document 02, CR 12): what Subtract reports is what the RTP card saw; how far J goes; which packets are turned down. Proved in
-- proofs/Theorems.antt: `packets-counted`.
use Rattle.std.specs.Prelude.{ℕ, ◌+◌, ◌-◌, ◌/◌, ◌^◌, ◌≤◌, ◌<◌, min, ◌≡◌, ◌≢◌, ◌↔◌, true, false, List, [], ◌∷◌, ◌++◌, length}
use Rattle.base.specs.Bytes.{text}
use Rattle.protocol.specs.Types.{Choose, Numbered, Add, Subtract}
use Rattle.megaco.specs.Table.{Write, ephemerals, line_terminations, fitted, words, ctx, get, sound}
use Rattle.megaco.specs.Names.{name_text}
use Rattle.megaco.specs.Blocks.{block_words, block_at, no_packets, difference, size_of, jitter_after, updated, reported, blocks_are_sound}
use Rattle.megaco.specs.State.{State, state, wrote}
use Rattle.megaco.specs.Items.{unchanged}
use Rattle.megaco.specs.Reply.{statistics, done}
use Rattle.megaco.specs.Action.{new_record}
use Rattle.megaco.specs.Call.{packet}
use Rattle.megaco.specs.declared.Block.{Block}
use Rattle.laws.specs.Figures.{Attempt, attempted, Meets, Adds}

-- ---- a row of packets

-- when it came, and its RTP time
pub record Packet : Type 0 where
  pub arrival : ℕ
  pub stamp : ℕ

abbrev pub transit_of : Packet → ℕ
transit_of p = difference p.arrival p.stamp

-- "J becomes J + d − floor((J + 8) / 16)", packet by packet; t is the transit of the last one
unfoldable pub jitter_from : ℕ → ℕ → List Packet → ℕ
jitter_from t j [] = j
jitter_from t j (p ∷ ps) = jitter_from (transit_of p) (jitter_after j (size_of (difference (transit_of p) t))) ps

-- "The first packet sets the transit and leaves J at 0"
unfoldable pub jitter_of : List Packet → ℕ
jitter_of [] = 0
jitter_of (p ∷ ps) = jitter_from (transit_of p) 0 ps

-- the block after them, one update for each
unfoldable pub counted : Block → List Packet → Block
counted x [] = x
counted x (p ∷ ps) = counted (updated x p.arrival p.stamp) ps

-- a block's figures are those of the packets: "packets received, held at 4294967295"; "the report is floor(J / 16)"
pub record FiguresOf (ps : List Packet) (x : Block) : Type 0 where
  pub packets : x.packets ≡ min (length ps) 4294967295
  pub jitter : x.jitter ≡ jitter_of ps
  pub report : reported x ≡ jitter_of ps / 16

-- ---- from the Add to the Subtract

-- on a gateway of n lines `R/(k + 1)` was added, and the state is st after the RTP card saw these packets of it, in this order. In between there may be packets
-- of other ephemerals, taken or not, and all that messages do but to add it anew
pub data Saw (n k : ℕ) : State → List Packet → Type 0 where
  added : (a : Attempt) (st : State) → length st.blocks ≡ block_words → Adds a st k → Saw n k (attempted a st).state []
  its : {st : State} {ps : List Packet} → Saw n k st ps → (p : Packet) → (packet n st (k + 1) p.arrival p.stamp).refusal ≡ 0
      → Saw n k (state st.table (packet n st (k + 1) p.arrival p.stamp).blocks) (ps ++ p ∷ [])
  another : {st : State} {ps : List Packet} → Saw n k st ps → (j : ℕ) (p : Packet) → j ≢ k + 1 → Saw n k (state st.table (packet n st j p.arrival p.stamp).blocks) ps
  tried : {st : State} {ps : List Packet} → Saw n k st ps → (a : Attempt) → ¬ Adds a st k → Saw n k (attempted a st).state ps
  began : {st : State} {ps : List Packet} → Saw n k st ps → (ws : List Write) → Saw n k (wrote ws st) ps

-- one of them, computed: on a gateway of one line, whose `R/1` is termination 31, `R/1` is added, three packets come, and it is subtracted
abbrev pub hello : Attempt
hello = record { op = Add; wild = false; name = text "R/$"; given = new_record; values = unchanged; number = 31; at = Choose }

abbrev pub goodbye : Attempt
goodbye = record { op = Subtract; wild = false; name = text "R/1"; given = new_record; values = unchanged; number = 31; at = Numbered 1 }

abbrev pub three : List Packet
three = record { arrival = 1000; stamp = 0 } ∷ record { arrival = 1300; stamp = 160 } ∷ record { arrival = 1420; stamp = 320 } ∷ []

pub record PacketSample : Type 0 where
  pub state : State
  pub saw : Saw 1 0 state three
  pub meets : Meets goodbye state 0
  pub told : (attempted goodbye state).reports ≡ done Subtract (text "R/1") (statistics 3 10) ∷ []

-- ---- a packet by itself

-- "8 for a count outside 1..16"
abbrev pub LinesFit : ℕ → Type 0
LinesFit n = (1 ≤ n) × (n ≤ 16)

-- a table of the size of n lines, and sound; 64 blocks, and sound
abbrev pub StateFits : ℕ → State → Type 0
StateFits n st = (length st.table ≡ words n) × (sound st.table ≡ true) × (blocks_are_sound st.blocks ≡ true)

-- `R/k` is one of 64 and exists
abbrev pub Present : ℕ → ℕ → List ℕ → Type 0
Present n k t = (1 ≤ k) × (k ≤ 64) × (get t (ctx (line_terminations n + (k - 1))) ≢ 0)

-- 8 and 2 as in a call, "after it 9 for an update of an absent ephemeral or a number outside 1..64": the first condition that does not hold; 0 where all do
pub data PacketRefusal (n : ℕ) (st : State) (k : ℕ) : ℕ → Type 0 where
  lines_unfit : ¬ LinesFit n → PacketRefusal n st k 8
  state_unfit : LinesFit n → ¬ StateFits n st → PacketRefusal n st k 2
  not_present : LinesFit n → StateFits n st → ¬ Present n k st.table → PacketRefusal n st k 9
  all_fit : LinesFit n → StateFits n st → Present n k st.table → PacketRefusal n st k 0

-- a packet of `R/k` that is taken: its block is updated, every other stays
pub record Updates (b b' : List ℕ) (k arrival stamp : ℕ) : Type 0 where
  pub one : (1 ≤ k) × (k ≤ ephemerals)
  pub this : block_at (k - 1) b' ≡ updated (block_at (k - 1) b) arrival stamp
  pub others : (j : ℕ) → j ≢ k - 1 → block_at j b' ≡ block_at j b

-- ---- all of it

pub record PacketsCounted : Type 0 where
  -- for any row of packets from a fresh ephemeral
  pub figures : (ps : List Packet) → FiguresOf ps (counted no_packets ps)
  -- a difference's size: "read as signed", at most 2^31
  pub size : (a b : ℕ) → size_of (difference a b) ≤ 2 ^ 31
  -- "Show that J never passes 2^35", whatever packets come; nor does it pass 2^35 − 8, and below that the largest difference still adds to it
  pub never_passes : (ps : List Packet) → jitter_of ps ≤ 2 ^ 35
  pub closer : (ps : List Packet) → jitter_of ps ≤ 2 ^ 35 - 8
  pub closest : (j : ℕ) → j < 2 ^ 35 - 8 → j < jitter_after j (2 ^ 31)
  -- a Subtract of the ephemeral that succeeds reports what the RTP card saw
  pub reports : (n k : ℕ) (st : State) (ps : List Packet) → k < ephemerals → Saw n k st ps → (a : Attempt) → a.op ≡ Subtract → Meets a st k → (attempted a st).going ≡ true
      → (attempted a st).reports ≡ done Subtract (name_text (fitted st.table) a.number) (statistics (min (length ps) 4294967295) (jitter_of ps / 16)) ∷ []
  pub sample : PacketSample
  -- 8, 2 and 9, each exactly when; "nothing changed" by a refusal; else its block alone; sound blocks stay sound
  pub number : (n : ℕ) (st : State) (k arrival stamp c : ℕ) → (packet n st k arrival stamp).refusal ≡ c ↔ PacketRefusal n st k c
  pub down : (n : ℕ) (st : State) (k arrival stamp : ℕ) → (packet n st k arrival stamp).refusal ≢ 0 → (packet n st k arrival stamp).blocks ≡ st.blocks
  pub taken : (n : ℕ) (st : State) (k arrival stamp : ℕ) → (packet n st k arrival stamp).refusal ≡ 0 → Updates st.blocks (packet n st k arrival stamp).blocks k arrival stamp
  pub keeps : (n : ℕ) (st : State) (k arrival stamp : ℕ) → blocks_are_sound st.blocks ≡ true → blocks_are_sound (packet n st k arrival stamp).blocks ≡ true

-- A sound table (document 01, 'The lent table') as facts by the number of a termination and of a context, and what is proved of it.
-- Proved in proofs/Theorems.antt: `soundness`.
use Rattle.std.specs.Prelude.{ℕ, ◌+◌, ◌*◌, ◌^◌, ◌≤◌, ◌<◌, min, ◌≡◌, ◌≢◌, ◌↔◌, true, List, length, replicate, get_or}
use Rattle.base.specs.Lists.{lowest_absent}
use Rattle.megaco.specs.Tree.{Transaction, Message}
use Rattle.megaco.specs.Square.{Square, square_of, flow_at}
use Rattle.megaco.specs.Table.{line_terminations, terminations, contexts, words, most_lines, fitted, most, map_start, prop, rec, used, flow, speech, low_flow, high_flow, speech_word, ctx, cell, get, free_ephemeral, used_ephemerals, ephemeral_contexts, members, mode_of, state_of, sound}
use Rattle.megaco.specs.Map.{digits, in_use}
use Rattle.megaco.specs.State.{State}
use Rattle.megaco.specs.Transaction.{run_transaction}
use Rattle.megaco.specs.Room.{Room}
use Rattle.megaco.specs.Message.{run_message}
use Rattle.megaco.specs.Call.{call}

-- "the diagonal and unused places 0", of m members
abbrev pub Fit : ℕ → Square → Type 0
Fit m q = (a b : ℕ) → flow_at q a b ≡ true → (a < m) × (b < m) × (a ≢ b)

-- the two words of a context of m members
pub record SoundFlows (l h m : ℕ) : Type 0 where
  pub low : l < 2 ^ 32
  pub high : h < 2 ^ 32
  pub fit : Fit m (square_of l h)

-- "each property one of the 15 values"
pub record SoundWord (w : ℕ) : Type 0 where
  pub mode : mode_of w ≤ 4
  pub state : state_of w ≤ 2

-- a record r of a context with m terminations: "at most 32, and not 0 exactly when some termination stands in that context; at most 8"
pub record SoundRecord (r m : ℕ) : Type 0 where
  pub low : r ≤ 32
  pub both : min r 1 ≡ min m 1
  pub room : m ≤ most

-- one side's words of an ephemeral in context c: "1, address .., port and type are kept .. or four zeros", "absent ones zero"
pub data SoundSide (c : ℕ) : ℕ → ℕ → ℕ → ℕ → Type 0 where
  silent : SoundSide c 0 0 0 0
  sends : {a p k : ℕ} → 0 < c → a < 2 ^ 32 → p ≤ 65535 → k ≤ 127 → SoundSide c 1 a p k

pub record Whole (t : List ℕ) : Type 0 where
  pub some : 0 < fitted t
  pub few : fitted t ≤ most_lines
  pub long : length t ≡ words (fitted t)
  -- "each context word at most 128"
  pub place : (i : ℕ) → i < terminations (fitted t) → get t (ctx i) ≤ contexts
  pub word : (i : ℕ) → i < terminations (fitted t) → SoundWord (get t (cell (prop i)))
  -- "an absent ephemeral's property 0"
  pub absent : (i : ℕ) → line_terminations (fitted t) ≤ i → i < terminations (fitted t) → get t (ctx i) ≡ 0 → get t (cell (prop i)) ≡ 0
  pub held : (c : ℕ) → 0 < c → c ≤ contexts → SoundRecord (get t (cell (rec c))) (members c t)
  -- "bit n − 1 set exactly when R/n exists"
  pub marked : (i : ℕ) → line_terminations (fitted t) ≤ i → i < terminations (fitted t) → get t (cell (used i)) ≡ min (get t (ctx i)) 1
  -- "the diagonal and unused places 0", in words "of 32 bits"
  pub flows : (c : ℕ) → 0 < c → c ≤ contexts → SoundFlows (get t (cell (flow (low_flow c)))) (get t (cell (flow (high_flow c)))) (members c t)
  -- of an ephemeral's Local, side 0, and Remote, side 1
  pub speech : (i side : ℕ) → line_terminations (fitted t) ≤ i → i < terminations (fitted t) → side < 2
      → SoundSide (get t (ctx i)) (get t (cell (speech (speech_word i side 0)))) (get t (cell (speech (speech_word i side 1)))) (get t (cell (speech (speech_word i side 2)))) (get t (cell (speech (speech_word i side 3))))
  -- the map's words are "of 32 bits"
  pub narrow : (k : ℕ) → k < 2 → get_or t (map_start (fitted t) + k) 0 < 2 ^ 32

-- ---- what is proved of it

pub record Soundness : Type 0 where
  -- the test that a call makes holds exactly where the facts do
  pub tested : (t : List ℕ) → sound t ≡ true ↔ Whole t
  -- "All zero is the fresh table", of any count of lines
  pub fresh : (n : ℕ) → 0 < n → n ≤ most_lines → sound (replicate (words n) 0) ≡ true
  -- from a sound table every transaction, message and call ends in a sound one, wildcards and `$` included
  pub transaction_keeps : (x : Transaction) (st : State) → sound st.table ≡ true → sound (run_transaction x st).state.table ≡ true
  pub message_keeps : (m : List ℕ) (x : Message) (st : State) (r : Room) → sound st.table ≡ true → sound (run_message m x st r).state.table ≡ true
  pub call_keeps : (n : ℕ) (m : List ℕ) (st : State) (r : Room) (own o : List ℕ) → sound st.table ≡ true → sound (call n m st r own o).state.table ≡ true
  -- a call leaves as many words as it was given, sound or not
  pub call_length : (n : ℕ) (m : List ℕ) (st : State) (r : Room) (own o : List ℕ) → length (call n m st r own o).state.table ≡ length st.table
  -- what the map tells, the lowest free ephemeral and how many exist, is "on any sound table proved equal to the full walk"
  pub free_walk : (t : List ℕ) → sound t ≡ true → free_ephemeral t ≡ lowest_absent 1 (ephemeral_contexts t)
  pub used_walk : (t : List ℕ) → sound t ≡ true → used_ephemerals t ≡ in_use (ephemeral_contexts t)
  -- and with the map "given as one number"
  pub number_free : (t : List ℕ) → sound t ≡ true → (low high : ℕ) → low ≡ get_or t (map_start (fitted t)) 0 → high ≡ get_or t (map_start (fitted t) + 1) 0
      → lowest_absent 1 (digits 64 (low + high * 2 ^ 32)) ≡ lowest_absent 1 (ephemeral_contexts t)
  pub number_used : (t : List ℕ) → sound t ≡ true → (low high : ℕ) → low ≡ get_or t (map_start (fitted t)) 0 → high ≡ get_or t (map_start (fitted t) + 1) 0
      → in_use (digits 64 (low + high * 2 ^ 32)) ≡ in_use (ephemeral_contexts t)

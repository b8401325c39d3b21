-- A sound room (document 02, CR 3) as facts about each of its slots: what the test of a call tells. Proved in proofs/Theorems.antt: `kept-replies`.
use Rattle.std.specs.Prelude.{ℕ, ◌+◌, ◌≤◌, ◌<◌, ◌≡◌, ◌≢◌, length, get_or}
use Rattle.megaco.specs.Room.{Room, slot_sender, slot_id}

-- the slot that the row tells at place i, the oldest first; 0 where it tells none
abbrev pub told : Room → ℕ → ℕ
told r i = get_or r.words i 0

-- one of the 16; not sound: "a kept reply over 2,048 bytes or its mId over 72"
pub record SoundSlot (r : Room) (n : ℕ) : Type 0 where
  pub low : 1 ≤ n
  pub high : n ≤ 16
  pub sender : get_or r.words (31 + n) 0 ≤ 72
  pub reply : get_or r.words (47 + n) 0 ≤ 2048

pub record SoundRoom (r : Room) : Type 0 where
  -- not sound: "room of the wrong size"
  pub words : length r.words ≡ 64
  pub bytes : length r.bytes ≡ 33920
  -- "ages that give no order": the row tells so many slots, each once, and then zeros
  pub many : ℕ
  pub most : many ≤ 16
  pub slots : (i : ℕ) → i < many → SoundSlot r (told r i)
  pub once : (i j : ℕ) → i < j → j < many → told r i ≢ told r j
  pub zeros : (i : ℕ) → many ≤ i → i < 16 → told r i ≡ 0
  -- "a pair kept twice"
  pub pairs : (i j : ℕ) → i < j → j < many → slot_sender r (told r i) ≡ slot_sender r (told r j) → slot_id r (told r i) ≢ slot_id r (told r j)

-- Slots of the table: different slots never meet, not even where they share a word. Proved in proofs/Theorems.antt: `slots_apart`.
use Rattle.std.specs.Prelude.{ℕ, ◌*◌, ◌-◌, ◌%◌, ◌≤◌, ◌<◌, ◌≡◌, ◌≢◌, List, length}
use Rattle.megaco.specs.Table.{line_terminations, terminations, contexts, words, fitted, prop, rec, used, flow, speech, Slot, ctx, cell, address, get, write, store}

-- a slot of the table
abbrev pub Valid : ℕ → Slot → Type 0
Valid n (ctx i) = i < terminations n
Valid n (cell (prop i)) = i < terminations n
Valid n (cell (rec c)) = (0 < c) × (c ≤ contexts)
Valid n (cell (used i)) = (line_terminations n ≤ i) × (i < terminations n)
Valid n (cell (flow k)) = k < 2 * contexts
Valid n (cell (speech k)) = (8 * line_terminations n ≤ k) × (k < 8 * terminations n)

-- two slots share a word: they are places of the map, and other digits of it
pub data Shared (n : ℕ) : Slot → Slot → Type 0 where
  both : {i j : ℕ} → (i - line_terminations n) % 32 ≢ (j - line_terminations n) % 32 → Shared n (cell (used i)) (cell (used j))

-- what a slot holds once v is put there
abbrev pub held : Slot → ℕ → ℕ
held (ctx i) v = v
held (cell (prop i)) v = v
held (cell (rec c)) v = v
held (cell (used i)) v = v % 2
held (cell (flow k)) v = v
held (cell (speech k)) v = v

-- ---- all of it

pub record SlotsApart : Type 0 where
  -- each lies in a table of n lines, and no two have one word but places of the map
  pub within : (n : ℕ) (s : Slot) → Valid n s → address n s < words n
  pub shared : (n : ℕ) (s r : Slot) → Valid n s → Valid n r → s ≢ r → address n s ≡ address n r → Shared n s r
  -- a write is told by its own slot and by no other
  pub get_same : (n : ℕ) (s : Slot) (v : ℕ) (t : List ℕ) → fitted t ≡ n → address n s < length t → get (store (write s v) t) s ≡ held s v
  pub get_other : (n : ℕ) (s r : Slot) (v : ℕ) (t : List ℕ) → fitted t ≡ n → Valid n s → Valid n r → s ≢ r → get (store (write r v) t) s ≡ get t s
  -- writes of two slots may change places
  pub store_comm : (n : ℕ) (s r : Slot) (u v : ℕ) (t : List ℕ) → fitted t ≡ n → Valid n s → Valid n r → s ≢ r
      → store (write r v) (store (write s u) t) ≡ store (write s u) (store (write r v) t)

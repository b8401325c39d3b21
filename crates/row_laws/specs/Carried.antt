-- "One sound table has one such row and reading gives it back", and "demands 2 and 3 start anew from it" (document 02, CR 14): what demands 2 and 3 ask of the
-- table, the blocks and the room holds of what the spare lends; crates/demands/specs/Spare.antt says both of it. Proved in proofs/Theorems.antt: `carried`.
use Rattle.row_laws.specs.declared.RowError.{RowError}
use Rattle.row_laws.specs.Answers.{Answer}
use Rattle.std.specs.Prelude.{ℕ, ◌≤◌, ◌≡◌, true, List, [], length, take, drop, replicate, Ok, Err}
use Rattle.megaco.specs.Tree.{Transaction}
use Rattle.megaco.specs.Table.{words, sound}
use Rattle.megaco.specs.Blocks.{block_words}
use Rattle.megaco.specs.State.{State, state}
use Rattle.megaco.specs.Room.{Room, room, kept_of, room_sound}
use Rattle.megaco.specs.Message.{identifier}
use Rattle.megaco.specs.Call.{state_fits}
use Rattle.laws.specs.KeptReplies.{PairsApart}
use Rattle.laws.specs.Packets.{LinesFit}
use Rattle.row_laws.specs.Row.{row_of}
use Rattle.row_laws.specs.Answers.{sound_of, Wrote, Read}

-- a table u that was read: sound, and the bytes are its row
pub record ReadTable (n : ℕ) (s u : List ℕ) : Type 0 where
  pub sound_table : sound u ≡ true
  pub long : length u ≡ words n
  pub row : s ≡ row_of n u

-- a table t that was written, and read into u by a
pub record SameTable (t u : List ℕ) (k : ℕ) (a : Answer) : Type 0 where
  pub table : u ≡ t
  pub sound_table : sound u ≡ true
  pub answer : a ≡ Ok k

-- "Kept replies and blocks are not in it, the spare lends empty ones"
abbrev pub spare_state : List ℕ → State
spare_state u = state u (replicate block_words 0)

abbrev pub spare_room : Room
spare_room = room (replicate 64 0) (replicate 33920 0)

-- a spare of n lines with the table u: a call's tests of the count, the state and the room are met, no reply is kept, and of demand 3's conditions
-- on the pairs one is left, that they differ
pub record Anew (n : ℕ) (u : List ℕ) : Type 0 where
  pub lines : LinesFit n
  pub state : state_fits n (spare_state u) ≡ true
  pub room : room_sound spare_room ≡ true
  pub keeps_none : kept_of spare_room ≡ []
  pub pairs : (s t : List ℕ) (x y : Transaction) → (s ≡ t → identifier x ≡ identifier y → ⊥) → PairsApart s t x y (kept_of spare_room)

pub record Carried : Type 0 where
  -- no two sound tables have one row
  pub one_row : (n : ℕ) (t u : List ℕ) → sound_of n t ≡ true → sound_of n u ≡ true → row_of n t ≡ row_of n u → t ≡ u
  -- a table that was written and read again, whatever stood in the output and in the spare's table
  pub given_back : (n : ℕ) (t o o' z u : List ℕ) (k : ℕ) (a : Answer) → Wrote n t o o' (Ok k) → length z ≡ words n → Read n (take k o') z u a → SameTable t u k a
  -- the other way: what is read is a sound table, and the bytes are its row
  pub read_table : (n : ℕ) (s z u : List ℕ) (k : ℕ) → Read n s z u (Ok k) → ReadTable n s u
  -- reading has one outcome: what it promises is one table and one answer
  pub read_one : (n : ℕ) (s z u v : List ℕ) (a b : Answer) → Read n s z u a → Read n s z v b → (u ≡ v) × (a ≡ b)
  -- "demands 2 and 3 start anew from it"
  pub anew : (n : ℕ) (s z u : List ℕ) (k : ℕ) → Read n s z u (Ok k) → Anew n u
  -- "nothing written by any" refusal
  pub write_refused : (n : ℕ) (t o o' : List ℕ) (k : RowError) → Wrote n t o o' (Err k) → o' ≡ o
  pub read_refused : (n : ℕ) (s z u : List ℕ) (k : RowError) → Read n s z u (Err k) → u ≡ z
  -- "bytes after a written row stay"
  pub rest_stays : (n : ℕ) (t o o' : List ℕ) (k : ℕ) → Wrote n t o o' (Ok k) → drop k o' ≡ drop k o
  -- a row is at most this long, and has room in any output that is not refused
  pub row_fits : (n : ℕ) (t : List ℕ) → sound_of n t ≡ true → length (row_of n t) ≤ 4369

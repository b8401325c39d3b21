-- What a whole session prints (document 01, 'Sessions to check').
use Rattle.std.specs.Prelude.{ℕ, ◌≤◌, ◌<◌, ◌≡◌, Bool, true, not, ◌&&◌, ◌⊎◌, List, [], ◌∷◌, ◌++◌, length, take, drop, replicate, eqb}
use Rattle.base.specs.Pick.{pick}
use Rattle.base.specs.Bytes.{text, ◌then◌}
use Rattle.base.specs.Out.{Appended}
use Rattle.megaco.specs.Table.{words}
use Rattle.megaco.specs.Blocks.{block_words}
use Rattle.megaco.specs.State.{State, state}
use Rattle.megaco.specs.Room.{Room, room, room_sound}
use Rattle.megaco.specs.Call.{Called, state_fits, call}
use Rattle.sessions.specs.Lines.{line_end, lines_of, Unended}
use Rattle.sessions.specs.Listing.{lines, report_text, refused_text}

-- "own mId `[10.0.0.9]`"
unfoldable pub own_mid : List ℕ
own_mid = text "[10.0.0.9]"

-- what the program lends from line to line: a table and blocks, and a room of kept replies
pub record Lent : Type 0 where
  pub state : State
  pub room : Room

abbrev pub lent : List ℕ → List ℕ → List ℕ → List ℕ → Lent
lent t bs w b = record { state = state t bs; room = room w b }

-- "from a fresh table": "All zero is the fresh table"; with it blocks that have had no packet, and a room of zeros, which keeps nothing
unfoldable pub fresh_table : Lent
fresh_table = lent (replicate (words lines) 0) (replicate block_words 0) (replicate 64 0) (replicate 33920 0)

-- a sound table of eight lines, sound blocks and a sound room
unfoldable pub ready : Lent → Bool
ready t = state_fits lines t.state && room_sound t.room

-- the call for a line
unfoldable pub answered : List ℕ → Lent → Called
answered m t = call lines m t.state t.room own_mid (replicate 16640 0)

-- what it leaves
abbrev pub left_by : Called → Lent
left_by c = record { state = c.state; room = c.room }

-- "Per line it prints the reply or `refused 1`"
unfoldable pub answer_text : Called → List ℕ
answer_text c = pick (eqb c.refusal 0) (take c.size c.reply then (line_end ∷ [])) (refused_text c.refusal)

-- the answers to lines one after another, and then the contexts
unfoldable pub session_text : List (List ℕ) → Lent → List ℕ
session_text [] t = report_text t.state.table
session_text (m ∷ ms) t = let c = answered m t in answer_text c then session_text ms (left_by c)

-- what is printed for the rest s of an input, where the bytes h of a line are held, with what is lent
unfoldable pub rest_text : List ℕ → Lent → List ℕ → List ℕ
rest_text h t s = session_text (lines_of (h ++ s)) t

-- what is printed for an input
unfoldable pub printed_text : List ℕ → List ℕ
printed_text s = rest_text [] fresh_table s

-- ---- what is kept between two reads

-- a line's buffer has one byte more than a message may have, so that a line that is too long is seen
abbrev pub line_room : ℕ
line_room = 4097

-- the bytes that are held of a line that has not ended, and what is lent
pub record Between : Type 0 where
  pub held : List ℕ
  pub lending : Lent

abbrev pub between : List ℕ → Lent → Between
between h t = record { held = h; lending = t }

-- once more input is taken: each line that ends in it has been answered, and of one that has not the first 4,097 bytes are held
unfoldable pub taken_in : List ℕ → Lent → List ℕ → Between
taken_in h t [] = between h t
taken_in h t (b ∷ s) = pick (eqb b line_end) (taken_in [] (left_by (answered h t)) s) (taken_in (take line_room (h ++ (b ∷ []))) t s)

-- reads one after another, the last one first
unfoldable pub read_so_far : List (List ℕ) → List ℕ
read_so_far [] = []
read_so_far (s ∷ ss) = read_so_far ss ++ s

-- a read that gives no byte ends the input
pub data Ended : List (List ℕ) → Type 0 where
  ended : {ss : List (List ℕ)} → Ended ([] ∷ ss)

-- as many reads as the program makes at most
abbrev pub most_reads : ℕ
most_reads = 18446744073709551615

-- ---- what the functions of the program promise

-- the answer to a line stands at the start of a buffer, r bytes long, and what is lent is as its call leaves it
pub record Answers (m : List ℕ) (t : Lent) (o : List ℕ) (t' : Lent) (o' : List ℕ) (r : ℕ) : Type 0 where
  pub put : Appended o 0 (answer_text (answered m t)) o' r
  pub leaves : t' ≡ left_by (answered m t)

-- a buffer for the answer to a line: a reply and a line end
abbrev pub answer_room : ℕ
answer_room = 16641

-- the first bytes of a line that has not ended are held in the line's buffer
pub record HoldsLine (line : List ℕ) (held : ℕ) : Type 0 where
  pub room : length line ≡ line_room
  pub within : held ≤ line_room
  pub unended : Unended (take held line)

-- a turn from place `from` of a chunk s to place `next`: what is kept when the chunk is taken is the same from both; `said` is to be printed,
-- and whatever input comes later, that and what is printed for the rest is what is printed from here
pub record Turned (s : List ℕ) (from : ℕ) (line : List ℕ) (held : ℕ) (t : Lent) (o line' : List ℕ) (t' : Lent) (o' : List ℕ) (next held' size : ℕ) : Type 0 where
  pub on : from < next
  pub holds : HoldsLine line' held'
  pub taken : taken_in (take held line) t (drop from s) ≡ taken_in (take held' line') t' (drop next s)
  pub kept : ready t ≡ true → ready t' ≡ true
  pub said : List ℕ
  pub put : Appended o 0 said o' size
  pub fits : length said ≤ length o
  pub rest : (later : List ℕ) → rest_text (take held line) t (drop from s ++ later) ≡ said then rest_text (take held' line') t' (drop next s ++ later)

-- one read: what came, what is kept once it is taken, and whether the input may go on
pub record Took (line : List ℕ) (held : ℕ) (t : Lent) (line' : List ℕ) (t' : Lent) (more : Bool) (held' : ℕ) : Type 0 where
  pub chunk : List ℕ
  pub taken : taken_in (take held line) t chunk ≡ between (take held' line') t'
  pub on : more ≡ not (eqb (length chunk) 0)

-- reads so far, n of them
pub record Reads (t : Lent) (n : ℕ) (line' : List ℕ) (t' : Lent) (held' : ℕ) : Type 0 where
  pub chunks : List (List ℕ)
  pub count : length chunks ≡ n
  pub taken : taken_in [] t (read_so_far chunks) ≡ between (take held' line') t'

-- the whole input: reads up to one that gave nothing, or as many as the program makes
pub record Input (t : Lent) (line' : List ℕ) (t' : Lent) (held' : ℕ) : Type 0 where
  pub chunks : List (List ℕ)
  pub taken : taken_in [] t (read_so_far chunks) ≡ between (take held' line') t'
  pub whole : Ended chunks ⊎ (length chunks ≡ most_reads)

-- the input has ended: `said` is to be printed for a line that is still held, and then the contexts
pub record Finished (line : List ℕ) (held : ℕ) (t : Lent) (o : List ℕ) (t' : Lent) (o' : List ℕ) (size : ℕ) : Type 0 where
  pub kept : ready t ≡ true → ready t' ≡ true
  pub said : List ℕ
  pub put : Appended o 0 said o' size
  pub fits : length said ≤ length o
  pub rest : rest_text (take held line) t [] ≡ said then report_text t'.state.table

-- chunks one after another
unfoldable pub joined : List (List ℕ) → List ℕ
joined [] = []
joined (s ∷ ss) = s ++ joined ss

-- a run of the program from place `from` of a chunk s, with the chunks that are still to be read, and what it prints: turn after turn,
-- chunk after chunk, a last line and the contexts
pub data Run : (line : List ℕ) (held : ℕ) (t : Lent) (s : List ℕ) (from : ℕ) → List (List ℕ) → List ℕ → Type 0 where
  turn : {line : List ℕ} {held : ℕ} {t : Lent} {s : List ℕ} {from : ℕ} {ss : List (List ℕ)} {x o line' : List ℕ} {t' : Lent} {o' : List ℕ} {next held' size : ℕ}
      → Turned s from line held t o line' t' o' next held' size → Run line' held' t' s next ss x → Run line held t s from ss (take size o' then x)
  read : {line : List ℕ} {held : ℕ} {t : Lent} {s : List ℕ} {from : ℕ} {s' : List ℕ} {ss : List (List ℕ)} {x : List ℕ}
      → length s ≤ from → Run line held t s' 0 ss x → Run line held t s from (s' ∷ ss) x
  end : {line : List ℕ} {held : ℕ} {t : Lent} {s : List ℕ} {from : ℕ} {o : List ℕ} {t' : Lent} {o' q q' : List ℕ} {size k : ℕ}
      → length s ≤ from → Finished line held t o t' o' size → answer_room ≤ length q → Appended q 0 (report_text t'.state.table) q' k
      → Run line held t s from [] (take size o' then take k q')

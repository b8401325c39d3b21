-- Where the speech goes (document 02, request 11): what an attempt of a command leaves of every word of it. Proved in proofs/Speech.antt: `speech-law`.
use Rattle.std.specs.Prelude.{ℕ, zero, suc, ◌≤◌, ◌<◌, ◌≡◌, ◌≢◌, Bool, true, false, ◌||◌, List, [], ◌∷◌}
use Rattle.protocol.specs.Types.{Context, Op, Add, Modify, Subtract, Move, AuditValue, Speech, Kept, Released, Session, Values}
use Rattle.megaco.specs.Table.{line_terminations, terminations, fitted, speech, speech_word, cell, get, apply, speech_words, sound}
use Rattle.megaco.specs.Attempt.{seen, number_of, look, speaks, Effect, effect}
use Rattle.megaco.specs.Command.{forbidden_in_null, no_context}
use Rattle.megaco.specs.declared.Block.{Block}

-- ---- words

abbrev pub Line : List ℕ → ℕ → Type 0
Line t i = i < line_terminations (fitted t)

abbrev pub Ephemeral : List ℕ → ℕ → Type 0
Ephemeral t i = (line_terminations (fitted t) ≤ i) × (i < terminations (fitted t))

-- the four words of Local, side 0, or of Remote, side 1, of an ephemeral
abbrev pub four_words : List ℕ → ℕ → ℕ → List ℕ
four_words t i side =
    get t (cell (speech (speech_word i side 0))) ∷ get t (cell (speech (speech_word i side 1)))
    ∷ get t (cell (speech (speech_word i side 2))) ∷ get t (cell (speech (speech_word i side 3))) ∷ []

-- "1, address .., port and type are kept .. or four zeros"; "empty text releases it": what is given for a side replaces all four
abbrev pub replaced : Speech → List ℕ → List ℕ
replaced Kept ws = ws
replaced Released ws = 0 ∷ 0 ∷ 0 ∷ 0 ∷ []
replaced (Session a p k) ws = 1 ∷ a ∷ p ∷ k ∷ []

-- what a command's items give for a side
abbrev pub for_side : ℕ → Values → Speech
for_side zero vs = vs.local
for_side (suc side) vs = vs.remote

-- what a success gives: Add, Modify and Move what their items give, and a side that they leave out is kept; "Subtract forgets them"; "audits answer
-- as before"
abbrev pub said_by : Op → Speech → Speech
said_by Add x = x
said_by Modify x = x
said_by Move x = x
said_by Subtract x = Released
said_by AuditValue x = Kept

-- the commands that "set the values given"
pub data Sets : Op → Type 0 where
  in_add : Sets Add
  in_modify : Sets Modify
  in_move : Sets Move

-- ---- one attempt

-- an attempt on termination i of a sound table, by a command that has passed tests 1 and 2: no 421, no 411
pub record Tried (op : Op) (at : Context) (i : ℕ) (t : List ℕ) : Type 0 where
  pub whole : sound t ≡ true
  pub there : i < terminations (fitted t)
  pub allowed : forbidden_in_null op at ≡ false
  pub context : no_context op at (seen (number_of at) t).held ≡ false

-- it gave vs, was a success or not, and left u of t
pub record SpeechLeft (op : Op) (vs : Values) (i : ℕ) (good : Bool) (t u : List ℕ) : Type 0 where
  -- a success, of its own ephemeral: either side is what was given for it, whole, or as it was
  pub own : good ≡ true → Ephemeral t i → (side : ℕ) → side < 2 → four_words u i side ≡ replaced (said_by op (for_side side vs)) (four_words t i side)
  -- of every other ephemeral: as it was
  pub others : (j side : ℕ) → Ephemeral t j → side < 2 → j ≢ i → four_words u j side ≡ four_words t j side
  -- "absent ones zero": a new ephemeral has nothing but what was given
  pub anew : op ≡ Add → good ≡ true → Ephemeral t i → (side : ℕ) → side < 2 → four_words u i side ≡ replaced (for_side side vs) (0 ∷ 0 ∷ 0 ∷ 0 ∷ [])
  -- a line, "Only ephemerals have one": all 512 words are as they were
  pub line : Line t i → speech_words u ≡ speech_words t
  -- "447 on a line, in Add, Modify and Move", an empty text too: no success
  pub line_447 : Line t i → Sets op → speaks vs.local || speaks vs.remote ≡ true → good ≡ false
  -- no success: the whole table is as it was
  pub failed : good ≡ false → u ≡ t

pub record SpeechLaw : Type 0 where
  -- any command, name, wildcard or not, context and values, whatever its block of figures holds
  pub each : (op : Op) (wild : Bool) (name : List ℕ) (given : ℕ) (vs : Values) (i : ℕ) (at : Context) (t : List ℕ) (x : Block) → Tried op at i t
      → let e : Effect = effect op wild name given vs i at (look at i t) x in SpeechLeft op vs i e.good t (apply e.writes t)

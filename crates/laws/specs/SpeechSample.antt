-- Where the speech goes (document 02, request 11), by attempts that are computed: R/1 is termination 248 and stands in context 1 with L/1/5, termination 4.
-- Proved in proofs/SpeechSample.antt.
use Rattle.std.specs.Prelude.{ℕ, ◌≡◌, false, List, [], ◌∷◌, ◌++◌, None}
use Rattle.protocol.specs.Types.{Speech, Kept, Released, Session, Numbered, Op, Add, Modify, Subtract, Move, Values}
use Rattle.megaco.specs.State.{state}
use Rattle.megaco.specs.Table.{speech_words}
use Rattle.megaco.specs.Reply.{Report, refused}
use Rattle.megaco.specs.Command.{attempts}
use Rattle.laws.specs.Speech.{Tried}
use Rattle.laws.specs.Witness.{with_words}

-- what Local and Remote give, and nothing else
abbrev pub saying : Speech → Speech → Values
saying l r = record { mode = None; state = None; audited = false; local = l; remote = r }

-- L/1/5 and R/1 in context 1, which hear each other, and L/1/1 in context 2; then the words of speech
abbrev pub called : List (ℕ × ℕ) → List ℕ
called ws = with_words ((4, 1) ∷ (248, 1) ∷ (0, 2) ∷ (624, 1) ∷ (625, 1) ∷ (752, 1) ∷ (754, 258) ∷ ws)

-- 10.0.0.1, port 5004, type 8
abbrev pub there : Speech
there = Session 167772161 5004 8

abbrev pub local : List (ℕ × ℕ)
local = (1010, 1) ∷ (1011, 167772161) ∷ (1012, 5004) ∷ (1013, 8) ∷ []

abbrev pub remote : List (ℕ × ℕ)
remote = (1014, 1) ∷ (1015, 167772161) ∷ (1016, 5004) ∷ (1017, 8) ∷ []

-- the table after one attempt in context c, and what is reported of it
unfoldable pub table_after : Op → ℕ → ℕ → Values → List ℕ → List ℕ
table_after op c i vs t = (attempts op false [] 1 vs (i ∷ []) (Numbered c) (state t [])).state.table

unfoldable pub reported : Op → ℕ → ℕ → Values → List ℕ → List Report
reported op c i vs t = (attempts op false [] 1 vs (i ∷ []) (Numbered c) (state t [])).reports

pub record SpeechSamples : Type 0 where
  -- what is given is kept, for Local and then for Remote; the other stays
  pub set : table_after Modify 1 248 (saying there Kept) (called []) ≡ called local
  pub other_stays : table_after Modify 1 248 (saying Kept there) (called local) ≡ called (local ++ remote)
  -- "empty text releases it"
  pub released : table_after Modify 1 248 (saying Released Kept) (called (local ++ remote)) ≡ called remote
  -- "447 on a line", an empty text too, "after the place test"
  pub on_a_line : reported Modify 1 4 (saying Kept Released) (called []) ≡ refused Modify [] 447 ∷ []
  pub line_stays : table_after Modify 1 4 (saying there there) (called []) ≡ called []
  pub place_first : reported Add 1 4 (saying there there) (called []) ≡ refused Add [] 433 ∷ []
  -- a new ephemeral has what is given
  pub added : speech_words (table_after Add 1 249 (saying Kept there) (called local)) ≡ speech_words (called ((1022, 1) ∷ (1023, 167772161) ∷ (1024, 5004) ∷ (1025, 8) ∷ local))
  -- a Move keeps, "Subtract forgets them"
  pub moved : speech_words (table_after Move 2 248 (saying Kept Kept) (called (local ++ remote))) ≡ speech_words (called (local ++ remote))
  pub forgotten : speech_words (table_after Subtract 1 248 (saying Kept Kept) (called (local ++ remote))) ≡ speech_words (called [])
  -- attempts as the law of `Speech` has them
  pub tried_modify : Tried Modify (Numbered 1) 248 (called (local ++ remote))
  pub tried_move : Tried Move (Numbered 2) 248 (called (local ++ remote))

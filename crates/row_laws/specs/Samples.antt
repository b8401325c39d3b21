-- Rows that were computed: of the fresh table of one line, and of one with a call. Proved in proofs/Samples.antt: `samples`.
use Rattle.std.specs.Prelude.{ℕ, ◌≡◌, true, List, [], ◌∷◌, ◌++◌, replicate, set}
use Rattle.megaco.specs.Table.{words}
use Rattle.row_laws.specs.Row.{row_of}
use Rattle.row_laws.specs.Answers.{sound_of}

abbrev pub fresh : List ℕ
fresh = replicate (words 1) 0

-- context 1 of priority 5: `L/1/5`, SendReceive, and `R/1`, SendReceive and out of service, to which Local 10.0.0.1 port 49170 type 8 belongs; each hears the other
abbrev pub with_call : List ℕ
with_call =
    set (set (set (set (set (set (set (set (set (set (set fresh 4 1) 31 1) 99 3) 126 11) 190 6) 318 1) 320 258) 576 1) 577 167772161) 578 49170) 579 8

pub record Samples : Type 0 where
  pub fresh_row : row_of 1 fresh ≡ 1 ∷ replicate 702 0
  pub call_sound : sound_of 1 with_call ≡ true
  pub call_row : row_of 1 with_call
      ≡ 1
      ∷ replicate 8 0
      ++ (1 ∷ 3 ∷ [])
      ++ replicate 52 0
      ++ (1 ∷ 11 ∷ 1 ∷ 129 ∷ 128 ∷ 128 ∷ 80 ∷ 146 ∷ 128 ∷ 3 ∷ 8 ∷ [])
      ++ replicate 253 0
      ++ (6 ∷ 130 ∷ 2 ∷ [])
      ++ replicate 382 0

-- The parts of soundness as the passes test them.
use Rattle.std.specs.Prelude.{ℕ, zero, suc, ◌+◌, ◌^◌, Bool, true, false, not, ◌&&◌, List, [], ◌∷◌, ◌++◌, get_or, ltb, leb, eqb}
use Rattle.base.specs.Lists.{every}
use Rattle.base.specs.Pick.{pick}
use Rattle.megaco.specs.Square.{square_of, may_flow, square_is_sound}
use Rattle.megaco.specs.Table.{contexts, context_words, property_words, record_words, flow_words, ephemeral_contexts, ephemeral_properties, is_property_word, absent_are_zero, record_is_sound, records_are_sound, flows_are_sound}

-- an ephemeral's two words
unfoldable pub ephemeral_is_sound : ℕ → ℕ → Bool
ephemeral_is_sound c word = is_property_word word && not (eqb c 0 && not (eqb word 0))

-- the records from context c on, the members being counted in a row of counters
unfoldable pub records_fit : List ℕ → ℕ → List ℕ → Bool
records_fit counters c [] = true
records_fit counters c (r ∷ rs) = let q = records_fit counters (c + 1) rs in pick (record_is_sound r (get_or counters c 0)) q false

-- the two words of a context's flows
unfoldable pub flow_is_sound : ℕ → ℕ → ℕ → Bool
flow_is_sound m low high = ltb low (2 ^ 32) && ltb high (2 ^ 32) && square_is_sound m (square_of low high)

-- the flows from context c on, the members being counted in a row of counters
unfoldable pub flows_fit : List ℕ → ℕ → List ℕ → Bool
flows_fit counters c [] = true
flows_fit counters c (low ∷ []) = false
flows_fit counters c (low ∷ high ∷ fs) = let q = flows_fit counters (c + 1) fs in pick (flow_is_sound (get_or counters c 0) low high) q false

-- the places of a square of m members that must be 0: n of row i from place j on, and n rows from row i on, in a row
unfoldable pub forbidden_row : ℕ → ℕ → ℕ → ℕ → List Bool
forbidden_row m i j zero = []
forbidden_row m i j (suc n) = not (may_flow m i j) ∷ forbidden_row m i (j + 1) n

unfoldable pub forbidden_rows : ℕ → ℕ → ℕ → List Bool
forbidden_rows m i zero = []
forbidden_rows m i (suc n) = forbidden_row m i 0 8 ++ forbidden_rows m (i + 1) n

unfoldable pub forbidden_bits : ℕ → List Bool
forbidden_bits m = forbidden_rows m 0 8

-- the tests of `sound` on a table of a good size
unfoldable pub parts_are_sound : List ℕ → Bool
parts_are_sound t =
    every (λ w. leb w contexts) (context_words t)
    && every is_property_word (property_words t)
    && absent_are_zero (ephemeral_contexts t) (ephemeral_properties t)
    && (records_are_sound (context_words t) 1 (record_words t) && flows_are_sound (context_words t) 1 (flow_words t))

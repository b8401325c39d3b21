-- Figure 7 of clause 7.1.18, panel by panel, as computed calls: T1, T2, T3 are L/1/1, L/1/2, L/1/3, the three members of context 1, places 0, 1
-- and 2. "In these examples it is assumed that the topology descriptors are applied in sequence." Proved in proofs/Theorems.antt: `figure-7`.
use Rattle.std.specs.Prelude.{ℕ, ◌≡◌, Bool, true, false, List, [], ◌∷◌}
use Prim.Native.String.{String}
use Rattle.megaco.specs.Table.{cell, flow, low_flow, high_flow, get}
use Rattle.megaco.specs.Square.{square_of, flow_at}
use Rattle.megaco.specs.Transaction.{run_transaction}
use Rattle.laws.specs.Witness.{read, with_words, lent}

-- who hears whom, each pair in both directions: T1 to T2, T2 to T1, T1 to T3, T3 to T1, T2 to T3, T3 to T2
pub record Panel : Type 0 where
  pub one_two : Bool
  pub two_one : Bool
  pub one_three : Bool
  pub three_one : Bool
  pub two_three : Bool
  pub three_two : Bool

abbrev pub panel : Bool → Bool → Bool → Bool → Bool → Bool → Panel
panel a b c d e f = record { one_two = a; two_one = b; one_three = c; three_one = d; two_three = e; three_two = f }

unfoldable pub shown : List ℕ → Panel
shown t =
    let q = square_of (get t (cell (flow (low_flow 1)))) (get t (cell (flow (high_flow 1)))) in
    panel (flow_at q 0 1) (flow_at q 1 0) (flow_at q 0 2) (flow_at q 2 0) (flow_at q 1 2) (flow_at q 2 1)

-- a table after transactions, one after the other
unfoldable pub after_all : List String → List ℕ → List ℕ
after_all [] t = t
after_all (x ∷ xs) t = after_all xs (run_transaction (read x) (lent t)).state.table

-- "1. No Topology Desc.": the three join
abbrev pub first : List String
first = "T=1{C=${A=L/1/1,A=L/1/2,A=L/1/3}}" ∷ []

abbrev pub up_to2 : List String
up_to2 = "T=1{C=${A=L/1/1,A=L/1/2,A=L/1/3}}" ∷ "T=2{C=1{TP{L/1/1,L/1/2,Isolate}}}" ∷ []

abbrev pub up_to3 : List String
up_to3 = "T=1{C=${A=L/1/1,A=L/1/2,A=L/1/3}}" ∷ "T=2{C=1{TP{L/1/1,L/1/2,Isolate}}}" ∷ "T=3{C=1{TP{L/1/3,L/1/2,Oneway}}}" ∷ []

abbrev pub up_to4 : List String
up_to4 = "T=1{C=${A=L/1/1,A=L/1/2,A=L/1/3}}" ∷ "T=2{C=1{TP{L/1/1,L/1/2,Isolate}}}" ∷ "T=3{C=1{TP{L/1/3,L/1/2,Oneway}}}" ∷ "T=4{C=1{TP{L/1/2,L/1/3,Oneway}}}" ∷ []

abbrev pub up_to5 : List String
up_to5 = "T=1{C=${A=L/1/1,A=L/1/2,A=L/1/3}}" ∷ "T=2{C=1{TP{L/1/1,L/1/2,Isolate}}}" ∷ "T=3{C=1{TP{L/1/3,L/1/2,Oneway}}}" ∷ "T=4{C=1{TP{L/1/2,L/1/3,Oneway}}}" ∷ "T=5{C=1{TP{L/1/2,L/1/3,Bothway}}}" ∷ []

abbrev pub up_to6 : List String
up_to6 = "T=1{C=${A=L/1/1,A=L/1/2,A=L/1/3}}" ∷ "T=2{C=1{TP{L/1/1,L/1/2,Isolate}}}" ∷ "T=3{C=1{TP{L/1/3,L/1/2,Oneway}}}" ∷ "T=4{C=1{TP{L/1/2,L/1/3,Oneway}}}" ∷ "T=5{C=1{TP{L/1/2,L/1/3,Bothway}}}" ∷ "T=6{C=1{TP{L/1/1,L/1/2,Bothway}}}" ∷ []

-- ---- the panels

pub record Figure-7 : Type 0 where
  -- "all Terminations have a bothway connection to all other Terminations"
  pub panel_1 : shown (after_all first (with_words [])) ≡ panel true true true true true true
  -- "Removes the connection between T1 and T2. T3 has a bothway connection with both T1 and T2"
  pub panel_2 : shown (after_all up_to2 (with_words [])) ≡ panel false false true true true true
  -- "A oneway connection from T3 to T2 (i.e., T2 receives media flow from T3). A bothway connection between T1 and T3"
  pub panel_3 : shown (after_all up_to3 (with_words [])) ≡ panel false false true true false true
  -- "A oneway connection between T2 to T3. T1 and T3 remain bothway connected"
  pub panel_4 : shown (after_all up_to4 (with_words [])) ≡ panel false false true true true false
  -- "T2 is bothway connected to T3. This results in the same as 2"
  pub panel_5 : shown (after_all up_to5 (with_words [])) ≡ shown (after_all up_to2 (with_words []))
  -- "All Terminations have a bothway connection to all other Terminations"
  pub panel_6 : shown (after_all up_to6 (with_words [])) ≡ panel true true true true true true

-- Demand 3 is not empty: two transactions that meet its conditions, and that both change the table. Proved in proofs/Theorems.antt: `witnessed`.
use Rattle.std.specs.Prelude.{ℕ, ◌≡◌, true, false, List, [], ◌∷◌, ◌++◌, get_or, replicate, set}
use Prim.Native.String.{String}
use Rattle.base.specs.Lists.{same}
use Rattle.base.specs.Bytes.{text}
use Rattle.megaco.specs.Tree.{Transaction, transaction, request, acknowledge, Message, well_formed, fault400, fault403, fault406}
use Rattle.megaco.specs.Reading.{message_r}
use Rattle.megaco.specs.Table.{words, sound}
use Rattle.megaco.specs.Blocks.{block_words}
use Rattle.megaco.specs.State.{State, state}
use Rattle.megaco.specs.Transaction.{Step, run_transaction}
use Rattle.laws.specs.Apart.{Apart}
use Rattle.laws.specs.Mix.{Mixture, over, first, second, mixed, steps_of, both_fresh}
use Rattle.laws.specs.Demand.{AsOneAfterOther}

-- a message with this inside, and the transaction that it reads as
abbrev pub message : String → List ℕ
message s = text "!/1 [10.0.0.1] " ++ text s

unfoldable pub first_of : Message → Transaction
first_of (well_formed []) = transaction 0 []
first_of (well_formed (request x ∷ ps)) = x
first_of (well_formed (acknowledge ks ∷ ps)) = transaction 0 []
first_of fault400 = transaction 0 []
first_of (fault403 id) = transaction 0 []
first_of fault406 = transaction 0 []

abbrev pub read : String → Transaction
read s = first_of (message_r (message s))

-- the fresh table of eight lines with words written
unfoldable pub with_words : List (ℕ × ℕ) → List ℕ
with_words [] = replicate (words 8) 0
with_words (w ∷ ws) = set (with_words ws) w.0 w.1

-- L/1/1, L/1/2 and R/1 in context 1, L/1/3 and R/2 in context 2, all else null or absent
abbrev pub start : List ℕ
start = with_words ((0, 1) ∷ (1, 1) ∷ (2, 2) ∷ (248, 1) ∷ (249, 2) ∷ (624, 1) ∷ (625, 1) ∷ (752, 3) ∷ [])

-- blocks of which R/1's has had 7 packets, its jitter 160, and R/2's 9
abbrev pub lent : List ℕ → State
lent t = state t (set (set (set (set (replicate block_words 0) 0 7) 1 99) 2 160) 4 9)

-- properties, flows, Subtracts, an Add that sets a mode, a Modify in null; an Add that fails, a Subtract that ends its context, an Add that then
-- fails and stops the rest
abbrev pub one : String
one = "T=7{C=1{PR=3,EG,TP{L/1/1,R/1,OW,r/1,L/1/2,IS},S=L/1/1,S=R/1,A=l/8/31{M{O{MO=SR}}}},C=-{MF=L/1/1{M{TS{SI=TE}}}}}"

abbrev pub two : String
two = "T=8{C=2{O-A=R/9,S=R/2,S=L/1/3},C=200{O-MV=ROOT},C=2{A=L/1/6},C=-{MF=L/1/4{M{O{MO=LB}}}}}"

-- the first word of the map, in which both write
abbrev pub map : List ℕ → ℕ
map t = get_or t 752 0

-- turn by turn
pub alternate : (ss rs : List Step) → Mixture ss rs
alternate [] [] = over
alternate [] (r ∷ rs) = second r (alternate [] rs)
alternate (s ∷ ss) [] = first s (alternate ss [])
alternate (s ∷ ss) (r ∷ rs) = first s (second r (alternate ss rs))

-- ---- all of it

pub record Witnessed : Type 0 where
  pub reads_one : message_r (message one) ≡ well_formed (request (read one) ∷ [])
  pub reads_two : message_r (message two) ≡ well_formed (request (read two) ∷ [])
  pub start_sound : sound start ≡ true
  pub apart : Apart start (read one) (read two)
  -- each of the two changes the table
  pub both_change : (same (run_transaction (read one) (lent start)).state.table start ≡ false) × (same (run_transaction (read two) (lent start)).state.table start ≡ false)
  -- both in one word
  pub share_the_map : (map start ≡ 3) × (map (run_transaction (read one) (lent start)).state.table ≡ 2) × (map (run_transaction (read two) (lent start)).state.table ≡ 1)
      × (map (run_transaction (read two) (run_transaction (read one) (lent start)).state).state.table ≡ 0)
  pub replies : ((run_transaction (read one) (lent start)).text ≡ text "P=7{C=1{S=L/1/1,S=R/1{SA{rtp/pr=7,rtp/jit=10}},A=L/8/31},C=-{MF=L/1/1}}")
      × ((run_transaction (read two) (lent start)).text ≡ text "P=8{C=2{A=R/9{ER=430{}},S=R/2{SA{rtp/pr=9,rtp/jit=0}},S=L/1/3},C=200{MV=ROOT{ER=411{}}},C=2{A=L/1/6{ER=411{}}}}")
  pub turn_by_turn : AsOneAfterOther (lent start) (read one) (read two) (mixed (alternate (steps_of (read one)) (steps_of (read two))) (both_fresh (lent start)))

-- Computed witnesses of merging (document 02, CR 7): actions as their texts, and what they leave. Proved in proofs/Theorems.antt: `samples`.
use Rattle.std.specs.Prelude.{ℕ, ◌≡◌, true, false, List, [], ◌∷◌}
use Prim.Native.String.{String}
use Rattle.base.specs.Lists.{same}
use Rattle.base.specs.Bytes.{text}
use Rattle.megaco.specs.Tree.{Property, action, Transaction, transaction}
use Rattle.megaco.specs.Table.{sound}
use Rattle.megaco.specs.Transaction.{run_transaction}
use Rattle.laws.specs.Witness.{read, with_words, lent}
use Rattle.laws.specs.Folding.{merged}

-- the properties of a transaction's first action
unfoldable pub properties_of : Transaction → List Property
properties_of (transaction id []) = []
properties_of (transaction id (action c ps cs ∷ acts)) = ps

-- L/1/1, L/1/2 and L/1/3 in context 1, bothway
abbrev pub three : List ℕ
three = with_words ((0, 1) ∷ (1, 1) ∷ (2, 1) ∷ (624, 1) ∷ (754, 197894) ∷ [])

-- and L/1/1 and L/1/2 isolated from each other
abbrev pub cut : List ℕ
cut = with_words ((0, 1) ∷ (1, 1) ∷ (2, 1) ∷ (624, 1) ∷ (754, 197636) ∷ [])

abbrev pub after : String → List ℕ → List ℕ
after x t = (run_transaction (read x) (lent t)).state.table

abbrev pub Alike : List ℕ → String → String → Type 0
Alike t x y = (same (after x t) (after y t) ≡ true) × (same (after x t) t ≡ false)

abbrev pub Differ : List ℕ → String → String → Type 0
Differ t x y = (same (after x t) (after y t) ≡ false) × ((run_transaction (read x) (lent t)).text ≡ text "P=1{C=1{PR=0}}") × ((run_transaction (read y) (lent t)).text ≡ text "P=1{C=1{PR=0}}")

-- two descriptors; the first triple has another on its pair behind it, its names in the other order and letter case
abbrev pub several : String
several = "T=1{C=1{TP{L/1/1,L/1/2,IS},PR=3,TP{L/1/3,L/1/2,OW,l/1/2,L/1/1,OW}}}"

abbrev pub one : String
one = "T=1{C=1{TP{L/1/3,L/1/2,OW,l/1/2,L/1/1,OW},PR=3}}"

-- a fold of refused triples is refused, and may be so with another code: the first faulty one is another
abbrev pub refused : String
refused = "T=1{C=1{TP{L/1/1,L/2/1,IS,L/1/1,R/9,IS,L/1/1,L/2/1,BW}}}"

abbrev pub refused_once : String
refused_once = "T=1{C=1{TP{L/1/1,R/9,IS,L/1/1,L/2/1,BW}}}"

-- ---- all of it

pub record Samples : Type 0 where
  pub sound_both : (sound three ≡ true) × (sound cut ≡ true)
  -- "the same triple twice in a row equals once"
  pub twice : Alike three "T=1{C=1{TP{L/1/1,L/1/2,OW,L/1/1,L/1/2,OW}}}" "T=1{C=1{TP{L/1/1,L/1/2,OW}}}"
  -- "Isolate and Bothway don't care for the order of names"
  pub isolate : Alike three "T=1{C=1{TP{L/1/1,L/1/2,IS}}}" "T=1{C=1{TP{L/1/2,L/1/1,IS}}}"
  pub bothway : Alike cut "T=1{C=1{TP{L/1/1,L/1/2,BW}}}" "T=1{C=1{TP{L/1/2,L/1/1,BW}}}"
  -- "on one pair, its names in either order, only the last triple counts"
  pub last : Alike three "T=1{C=1{TP{L/1/1,L/1/2,IS,L/1/1,L/1/2,OW}}}" "T=1{C=1{TP{L/1/1,L/1/2,OW}}}"
  pub last_turned : Alike three "T=1{C=1{TP{L/1/2,L/1/1,OW,L/1/1,L/1/2,OW}}}" "T=1{C=1{TP{L/1/1,L/1/2,OW}}}"
  -- "triples on different pairs may change places"
  pub places : Alike three "T=1{C=1{TP{L/1/1,L/1/2,OW,L/1/3,L/1/2,IS}}}" "T=1{C=1{TP{L/1/3,L/1/2,IS,L/1/1,L/1/2,OW}}}"
  -- a condition dropped: Oneway with its names exchanged
  pub oneway_exchanged : Differ three "T=1{C=1{TP{L/1/1,L/1/2,OW}}}" "T=1{C=1{TP{L/1/2,L/1/1,OW}}}"
  -- triples on one pair exchanged, its names in one order and in both
  pub one_pair_exchanged : Differ three "T=1{C=1{TP{L/1/1,L/1/2,IS,L/1/1,L/1/2,OW}}}" "T=1{C=1{TP{L/1/1,L/1/2,OW,L/1/1,L/1/2,IS}}}"
  pub turned_pair_exchanged : Differ three "T=1{C=1{TP{L/1/2,L/1/1,OW,L/1/1,L/1/2,OW}}}" "T=1{C=1{TP{L/1/1,L/1/2,OW,L/1/2,L/1/1,OW}}}"
  -- the last triple alone, where the one before is on another pair
  pub other_pair_left_out : Differ three "T=1{C=1{TP{L/1/1,L/1/2,IS,L/1/1,L/1/3,OW}}}" "T=1{C=1{TP{L/1/1,L/1/3,OW}}}"
  -- the fold of an action's topology
  pub merges : merged (properties_of (read several)) ≡ properties_of (read one)
  pub ends_alike : (same (after several three) (after one three) ≡ true)
      × ((run_transaction (read several) (lent three)).text ≡ text "P=1{C=1{PR=3}}") × ((run_transaction (read one) (lent three)).text ≡ text "P=1{C=1{PR=3}}")
      × (same (after one three) three ≡ false)
  -- why refused triples are left aside
  pub refused_apart : (merged (properties_of (read refused)) ≡ properties_of (read refused_once))
      × ((run_transaction (read refused) (lent three)).text ≡ text "P=1{C=1{ER=435{}}}") × ((run_transaction (read refused_once) (lent three)).text ≡ text "P=1{C=1{ER=430{}}}")
  -- why the shortest list is asked to set the same whatever the flows before: what the flows are already takes no triple at all
  pub set_already : same (after "T=1{C=1{TP{L/1/1,L/1/2,BW}}}" three) three ≡ true

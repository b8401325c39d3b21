-- What the grammar says of a message that it does not admit with version 1 (document 01, 'The text'): 406, 403 with its identifier; all else is 400, "any fault in K" too.
use Rattle.std.specs.Prelude.{ℕ, zero, suc, ◌≤◌, ◌≡◌, List, [], ◌∷◌, ◌++◌}
use Rattle.base.specs.Bytes.{text}
use Rattle.megaco.specs.Bytes.{left_brace, right_brace}
use Rattle.megaco.specs.Tree.{Action, Part}
use Rattle.protocol.specs.Types.{TransToken}
use Rattle.grammar.specs.Characters.{Keyword, Without}
use Rattle.grammar.specs.Grammar.{LWSP, EQUAL, Commas, AtMost, UINT32, action_request, TransactionID, Header, transaction_part}

-- "A header (through all the white space after the mId) that reads well with a version other than 1: ER=406{}, whatever follows"
pub data Fault406 : List ℕ → Type 0 where
  other_version : {a b m : List ℕ} {v : ℕ} → Header a v m → ¬ (v ≡ 1) → Without (text " \t\r\n;") b → Fault406 (a ++ b)

-- whole transactions and acknowledgements, n of them
pub data Whole : ℕ → List ℕ → Type 0 where
  none_whole : Whole zero []
  one_more : {n : ℕ} {a b : List ℕ} {x : Part} → transaction_part a x → Whole n b → Whole (suc n) (a ++ b)

-- from behind a transaction's opening brace through its closing one
pub data Closed : List ℕ → List Action → Type 0 where
  closed : {a b c : List ℕ} {xs : List Action} → LWSP a → AtMost 16 (Commas action_request) b xs → LWSP c
      → Closed (a ++ b ++ (c ++ right_brace ∷ [])) xs

-- "Fault between a transaction's opening and closing brace, or identifier 0"
pub data BadTransaction : List ℕ → ℕ → Type 0 where
  unclosed : {a b c d t : List ℕ} {id : ℕ} → Keyword TransToken a → EQUAL b → TransactionID c id → LWSP d
      → ((x y : List ℕ) (xs : List Action) → t ≡ x ++ y → ¬ Closed x xs)
      → BadTransaction (a ++ b ++ c ++ (d ++ left_brace ∷ []) ++ t) id
  zero_identifier : {a b c t : List ℕ} → Keyword TransToken a → EQUAL b → UINT32 c 0 → Without (text "0123456789") t
      → BadTransaction (a ++ b ++ c ++ t) 0

-- "the reply is `P=id{ER=403{}}` alone": behind a header and up to seven whole transactions and acknowledgements, the first fault in reading order
pub data Fault403 : List ℕ → ℕ → Type 0 where
  bad_transaction : {a b c m : List ℕ} {n id : ℕ} → Header a 1 m → Whole n b → n ≤ 7 → BadTransaction c id → Fault403 (a ++ b ++ c) id

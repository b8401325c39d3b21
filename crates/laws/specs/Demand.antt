-- Two transactions that are apart end alike in both orders, and so does any mixture of their steps. Demand 3 itself, with the grammar and of
-- calls, is stated in crate demands. Proved in proofs/Theorems.antt: `independence`.
use Rattle.std.specs.Prelude.{ℕ, ◌≡◌, ◌↔◌, true, List}
use Rattle.megaco.specs.Tree.{Transaction, transaction}
use Rattle.megaco.specs.Table.{sound}
use Rattle.megaco.specs.State.{State}
use Rattle.megaco.specs.Reply.{transaction_text}
use Rattle.megaco.specs.Transaction.{Progress, run_transaction}
use Rattle.laws.specs.Apart.{Apart}
use Rattle.laws.specs.ApartTest.{apart?}
use Rattle.laws.specs.Mix.{Both, Mixture, mixed, steps_of, both_fresh}

-- "running one after the other from that table ends alike in both orders". "The second starts from the table the first left"
pub record EitherOrder (st : State) (x y : Transaction) : Type 0 where
  -- "the same in every word of the table", and of the blocks
  pub state : (run_transaction y (run_transaction x st).state).state ≡ (run_transaction x (run_transaction y st).state).state
  -- document 02, CR 12: "start with the same blocks, no packet comes between, and they end with the same blocks": those that they started with
  pub blocks : (run_transaction y (run_transaction x st).state).state.blocks ≡ st.blocks
  -- "and each transaction's reply the same byte for byte": its `P=id{..}`, 533 included
  pub reply_one : (run_transaction x st).text ≡ (run_transaction x (run_transaction y st).state).text
  pub reply_two : (run_transaction y (run_transaction x st).state).text ≡ (run_transaction y st).text

-- the reply of a transaction that has come so far
abbrev pub reply_of : Transaction → Progress → List ℕ
reply_of (transaction id acts) p = transaction_text id p.acts

-- "the table .. and both replies are those of one after the other"
pub record AsOneAfterOther (st : State) (x y : Transaction) (b : Both) : Type 0 where
  pub state : b.state ≡ (run_transaction y (run_transaction x st).state).state
  pub reply_one : reply_of x b.one ≡ (run_transaction x st).text
  pub reply_two : reply_of y b.two ≡ (run_transaction y (run_transaction x st).state).text

-- ---- all of it

pub record Independence : Type 0 where
  -- "any two" transactions that meet the conditions, from "any sound table"
  pub either_order : (st : State) → sound st.table ≡ true → (x y : Transaction) → Apart st.table x y → EitherOrder st x y
  -- "let the commands of two transactions be run in any mixture that keeps each one's own order, action starts counted as steps"
  pub any_mixture : (st : State) → sound st.table ≡ true → (x y : Transaction) → Apart st.table x y → (z : Mixture (steps_of x) (steps_of y))
      → AsOneAfterOther st x y (mixed z (both_fresh st))
  -- the conditions can be computed
  pub tested : (t : List ℕ) (x y : Transaction) → apart? t x y ≡ true ↔ Apart t x y

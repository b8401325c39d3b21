-- Two transactions that are apart end alike in both orders, and so does any mixture of their steps. Demand 3 itself, with the grammar and of
-- calls, is stated in crate demands.
use mathlib.Core.Path.{◌≡◌, sym, ap}
use mathlib.Core.Bool.{true}
use Rattle.megaco.specs.Tree.{Transaction, transaction}
use Rattle.megaco.specs.Table.{sound}
use Rattle.megaco.specs.State.{State}
use Rattle.megaco.specs.Reply.{transaction_text}
use Rattle.megaco.specs.Transaction.{run_transaction}
use Rattle.laws.specs.Apart.{Apart}
use Rattle.laws.specs.Mix.{Both, Mixture, mixed, steps_of, both_fresh}
use Rattle.laws.specs.Demand.{EitherOrder, AsOneAfterOther}
use Rattle.laws.proofs.Reaching.{orders_alike, both_leave_blocks, mixture_alike}

pub either_order : (st : State) → sound st.table ≡ true → (x y : Transaction) → Apart st.table x y → EitherOrder st x y
unfolding run_transaction
either_order st e (transaction j xs) (transaction k ys) A =
    let p = orders_alike st e (transaction j xs) (transaction k ys) A in
    record {
      state = sym (ap (λ (b : Both). b.state) p);
      blocks = both_leave_blocks st e (transaction j xs) (transaction k ys) A;
      reply_one = sym (ap (λ (b : Both). transaction_text j b.one.acts) p);
      reply_two = sym (ap (λ (b : Both). transaction_text k b.two.acts) p);
    }

-- ---- any mixture (document 02, CR 13)

-- "let the commands of two transactions be run in any mixture that keeps each one's own order, action starts counted as steps"
pub any_mixture : (st : State) → sound st.table ≡ true → (x y : Transaction) → Apart st.table x y → (z : Mixture (steps_of x) (steps_of y))
    → AsOneAfterOther st x y (mixed z (both_fresh st))
unfolding run_transaction
any_mixture st e (transaction j xs) (transaction k ys) A z =
    let p = mixture_alike st e (transaction j xs) (transaction k ys) A z in
    record {
      state = ap (λ (b : Both). b.state) p;
      reply_one = ap (λ (b : Both). transaction_text j b.one.acts) p;
      reply_two = ap (λ (b : Both). transaction_text k b.two.acts) p;
    }

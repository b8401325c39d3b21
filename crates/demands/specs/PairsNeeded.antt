-- Each condition that document 02, CR 3 adds to demand 3 is needed: with one left out the claim is refuted. Proved in proofs/PairsNeeded.antt.
use Rattle.std.specs.Prelude.{ℕ, ◌≡◌, true, List}
use Rattle.std.proofs.Math.Option.{none}
use Rattle.protocol.specs.Types.{Ack}
use Rattle.megaco.specs.Tree.{Transaction, request, acknowledge}
use Rattle.megaco.specs.Table.{sound}
use Rattle.megaco.specs.State.{State}
use Rattle.megaco.specs.Kept.{Kept, find}
use Rattle.megaco.specs.Message.{identifier}
use Rattle.laws.specs.Apart.{Apart}
use Rattle.laws.specs.KeptReplies.{part_by, SameSet, EitherOrderKept}

-- demand 3 with other conditions on the pairs than its own: x is sent by s and y by t
abbrev pub Claim : (List ℕ → List ℕ → Transaction → Transaction → List Kept → Type 0) → Type 0
Claim P = (st : State) (ks : List Kept) (s t : List ℕ) (x y : Transaction) → sound st.table ≡ true → Apart st.table x y → P s t x y ks → EitherOrderKept s t x y st ks

-- that a request and an acknowledgement leave the same kept replies in both orders
abbrev pub ClaimOfAck : Type 0
ClaimOfAck =
    (st : State) (ks : List Kept) (s t : List ℕ) (x : Transaction) (acks : List Ack) → sound st.table ≡ true → find s (identifier x) ks ≡ none
    → SameSet (let a = part_by s (request x) st ks in (part_by t (acknowledge acks) a.state a.kept).kept) (let b = part_by t (acknowledge acks) st ks in (part_by s (request x) b.state b.kept).kept)

pub record PairsNeeded : Type 0 where
  -- the two may have one pair
  pub same_pair : Claim (λ s t x y ks. (find s (identifier x) ks ≡ none) × (find t (identifier y) ks ≡ none)) → ⊥
  -- one may be kept at the start: the first, or the second
  pub kept_before : Claim (λ s t x y ks. (find t (identifier y) ks ≡ none) × (s ≡ t → identifier x ≡ identifier y → ⊥)) → ⊥
  pub kept_before_two : Claim (λ s t x y ks. (find s (identifier x) ks ≡ none) × (s ≡ t → identifier x ≡ identifier y → ⊥)) → ⊥
  -- "both are T, a K is no transaction there": one may be an acknowledgement
  pub acknowledgement : ClaimOfAck → ⊥

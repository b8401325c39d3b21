-- Each condition that CR 3 adds to demand 3 is needed: computed.
use Prim.Native.Nat.{ℕ, zero, suc, ◌+◌}
use mathlib.Core.Path.{◌≡◌, refl, sym, ap, ◌∙◌}
use mathlib.Core.Bool.{true, false}
use mathlib.Core.List.{List, [], ◌∷◌}
use mathlib.Core.Option.{none}
use native.Mathlib.Omega.{arith}
use Rattle.base.specs.Lists.{same}
use Rattle.base.specs.Bytes.{text}
use Rattle.base.proofs.TestLaws.{clash}
use lib.ListN.{length}
use Rattle.protocol.specs.Types.{Ack}
use Rattle.megaco.specs.Tree.{Transaction, request, acknowledge}
use Rattle.megaco.specs.State.{State}
use Rattle.megaco.specs.Kept.{Kept, kept_under, under, find, youngest, keep, acked, without}
use Rattle.megaco.specs.Message.{identifier}
use Rattle.laws.specs.ApartTest.{apart?}
use Rattle.laws.specs.KeptReplies.{answered_by, without_all, part_by}
use Rattle.laws.specs.Witness.{read, start, lent}
use Rattle.laws.proofs.Witness.{tests, start_sound}
use Rattle.laws.proofs.ApartTest.{apart_is}
use Rattle.laws.proofs.Linked.{same_refl}
use Rattle.demands.specs.PairsNeeded.{Claim, ClaimOfAck, PairsNeeded}

differ : (a b : List ℕ) → same a b ≡ false → a ≡ b → ⊥
differ a b e q = clash (sym (same_refl b) ∙ sym (ap (λ (z : List ℕ). same z b) q) ∙ e)

abbrev sender : List ℕ
sender = text "[10.0.0.1]"

-- L/1/1 leaves context 1, L/1/3 context 2
abbrev one : Transaction
one = read "T=7{C=1{S=L/1/1}}"

abbrev again : Transaction
again = read "T=7{C=2{S=L/1/3}}"

abbrev other : Transaction
other = read "T=8{C=2{S=L/1/3}}"

apart_again : apart? start one again ≡ true
unfolding tests
apart_again = refl

apart_other : apart? start one other ≡ true
unfolding tests
apart_other = refl

-- ---- one pair for both: the second is answered with the first's reply

unkept : (find sender (identifier one) [] ≡ none) × (find sender (identifier again) [] ≡ none)
unfolding find
unkept = (refl, refl)

other_reply : same (let a = part_by sender (request one) (lent start) [] in (part_by sender (request again) a.state a.kept).text) (part_by sender (request again) (lent start) []).text ≡ false
unfolding tests identifier part_by answered_by find under keep youngest
other_reply = refl

same_pair : Claim (λ s t x y ks. (find s (identifier x) ks ≡ none) × (find t (identifier y) ks ≡ none)) → ⊥
same_pair claim = differ _ _ other_reply (claim (lent start) [] sender sender one again start_sound ((apart_is start one again).0 apart_again) unkept).reply_two

-- ---- the first is kept at the start, as the oldest of 16: the second makes it go, and then it runs

-- identifiers n + 1 .. n + k
unfoldable replies : ℕ → ℕ → List Kept
replies n zero = []
replies n (suc k) = kept_under sender n (text "P=1{}") ∷ replies (n + 1) k

abbrev full : List Kept
full = kept_under sender 7 (text "P=7{}") ∷ replies 100 15

new : find sender (identifier other) full ≡ none
unfolding tests identifier find under replies
new = refl

numbers : (identifier one ≡ 7) × (identifier other ≡ 8)
unfolding tests identifier
numbers = (refl, refl)

other_table : same (let a = part_by sender (request one) (lent start) full in (part_by sender (request other) a.state a.kept).state.table)
    (let b = part_by sender (request other) (lent start) full in (part_by sender (request one) b.state b.kept).state.table) ≡ false
unfolding tests identifier part_by answered_by find under keep youngest replies
other_table = refl

kept_before : Claim (λ s t x y ks. (find t (identifier y) ks ≡ none) × (s ≡ t → identifier x ≡ identifier y → ⊥)) → ⊥
kept_before claim =
    let e = claim (lent start) full sender sender one other start_sound ((apart_is start one other).0 apart_other) (new, λ p q. omega (arith, q, numbers.0, numbers.1)) in
    differ _ _ other_table (ap (λ (u : State). u.table) e.state)

-- the same of the second
apart_turned : apart? start other one ≡ true
unfolding tests
apart_turned = refl

kept_before_two : Claim (λ s t x y ks. (find s (identifier x) ks ≡ none) × (s ≡ t → identifier x ≡ identifier y → ⊥)) → ⊥
kept_before_two claim =
    let e = claim (lent start) full sender sender other one start_sound ((apart_is start other one).0 apart_turned) (new, λ p q. omega (arith, q, numbers.0, numbers.1)) in
    differ _ _ other_table (sym (ap (λ (u : State). u.table) e.state))

-- ---- an acknowledgement of the first in the place of the second

abbrev acks : List Ack
acks = record { first = 7; last = 7 } ∷ []

forgotten : length (let a = part_by sender (request one) (lent start) [] in (part_by sender (acknowledge acks) a.state a.kept).kept) ≡ 0
unfolding tests identifier part_by answered_by without_all without acked find under keep youngest
forgotten = refl

remembered : length (let b = part_by sender (acknowledge acks) (lent start) [] in (part_by sender (request one) b.state b.kept).kept) ≡ 1
unfolding tests identifier part_by answered_by without_all without acked find under keep youngest
remembered = refl

acknowledgement : ClaimOfAck → ⊥
acknowledgement claim = omega (arith, (claim (lent start) [] sender sender one acks start_sound unkept.0).many, forgotten, remembered)

pub pairs_needed : PairsNeeded
pairs_needed = record { same_pair = same_pair; kept_before = kept_before; kept_before_two = kept_before_two; acknowledgement = acknowledgement }

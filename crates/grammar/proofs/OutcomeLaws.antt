-- What transactions and acknowledgements read as, in the words of the grammar: transactions that it derives, a fault in one of them, or a fault elsewhere.
use Rattle.std.specs.Prelude.{Some, None}
use Prim.Native.Nat.{ℕ, zero, suc, ◌<◌, ◌≤◌}
use mathlib.Core.Path.{◌≡◌, refl, sym, ap, ◌∙◌}
use mathlib.Core.Bool.{Bool, true, false}
use mathlib.Core.List.{List, [], ◌∷◌, ◌++◌, append_assoc, append-nil}
use lib.ListN.{length, drop, drop_of_length-le}
use lib.Dec.{eqb, ltb}
use borrow.Author.Tests.{eqb-true, eqb-false, ltb-false}
use native.Mathlib.Omega.{arith}
use Rattle.base.specs.Pick.{pick}
use Rattle.base.specs.Lists.{has}
use Rattle.base.specs.Bytes.{text}
use Rattle.megaco.specs.Bytes.{left_brace, right_brace, is_digit}
use Rattle.megaco.specs.White.{after, white_at}
use Rattle.megaco.specs.Tokens.{mark_at, number_at}
use Rattle.megaco.specs.Tree.{Action, transaction, Message, well_formed, fault400, fault403, Part, request, acknowledge}
use Rattle.megaco.specs.Reading.{Read, got, fault, key_at, actions_r, elsewhere, numbered, inside, followed, end_or, braces_then, transactions_r, word_here, acks_r, acknowledged, request_then, acks_then}
use Rattle.megaco.specs.Keywords.{spells}
use Rattle.protocol.specs.Types.{TransToken, Parsed, Number, number, ResponseAckToken, Ack}
use Rattle.grammar.specs.Characters.{Keyword, Without, ended, begun}
use Rattle.grammar.specs.Grammar.{LWSP, around, EQUAL, TransactionID, identifier, transaction_request, with_actions, transaction_list, transaction_response_ack, transaction_part, a_request, an_ack, last_part, next_part}
use Rattle.grammar.specs.Faults.{Whole, none_whole, one_more, Closed, closed, BadTransaction, unclosed, zero_identifier}
use Rattle.grammar.proofs.Classes.{digit_has}
use Rattle.grammar.proofs.Places.{regroup4, regroup_request, Stands, given, fault_got, after_next}
use Rattle.grammar.proofs.WhiteLaws.{Solid, white_sound}
use Rattle.grammar.proofs.RowLaws.{Stops, mark_sound, number_sound}
use Rattle.grammar.proofs.ListLaws.{key_sound}
use Rattle.grammar.proofs.TransactionLaws.{closed_split, actions_complete, actions_sound}
use Rattle.grammar.proofs.PropertyLaws.{word_read}
use Rattle.grammar.proofs.AckLaws.{acks_got}

-- ---- by cases on what a reader gave

module _ (P : Message → Type 0) where
  pub by_elsewhere : (r : Parsed) (f : ℕ → Message) → P fault400 → ((p : ℕ) → r ≡ Some p → P (f p)) → P (elsewhere r f)
  unfolding elsewhere
  by_elsewhere (Some p) f x k = k p refl
  by_elsewhere None f x k = x

  pub by_numbered : (r : Number) (f : ℕ → ℕ → Message) → P fault400 → ((v p : ℕ) → r ≡ number v p → P (f v p)) → P (numbered r f)
  unfolding numbered
  by_numbered (Some (v, p)) f x k = k v p refl
  by_numbered None f x k = x

  by_inside : (id : ℕ) (r : Read (List Action)) (f : List Action → ℕ → Message) → (r ≡ fault → P (fault403 id))
      → ((xs : List Action) (p : ℕ) → r ≡ got xs p → P (f xs p)) → P (inside id r f)
  unfolding inside
  by_inside id (got xs p) f x k = k xs p refl
  by_inside id fault f x k = x refl

  by_acknowledged : (r : Read (List Ack)) (f : List Ack → ℕ → Message) → P fault400 → ((ks : List Ack) (p : ℕ) → r ≡ got ks p → P (f ks p)) → P (acknowledged r f)
  unfolding acknowledged
  by_acknowledged (got ks p) f x k = k ks p refl
  by_acknowledged fault f x k = x

  pub by_pick : (t : Bool) (m n : Message) → (t ≡ true → P m) → (t ≡ false → P n) → P (pick t m n)
  unfolding pick
  by_pick true m n f g = f refl
  by_pick false m n f g = g refl

-- ---- a text that begins with none of a few bytes

module _ (t : ℕ → Bool) (bytes : List ℕ) (same : (b : ℕ) → t b ≡ has b bytes) (ends : t 0 ≡ false) where
  pub stops_without : (a : List ℕ) → Stops t a → Without bytes a
  stops_without [] h = ended
  stops_without (b ∷ a) h = begun (sym (same b) ∙ h)

  pub without_stops : {a : List ℕ} → Without bytes a → Stops t a
  without_stops ended = ends
  without_stops (begun {b} h) = same b ∙ h

pub digit_0 : is_digit 0 ≡ false
unfolding is_digit
digit_0 = refl

-- ---- a transaction that was read

transaction_of_lem : {a b c d x w : List ℕ} {id : ℕ} {xs : List Action} (from rest : List ℕ) → Keyword TransToken a → EQUAL b → TransactionID c id
    → LWSP d → Closed x xs → LWSP w → Solid rest
    → from ≡ a ++ (b ++ (c ++ (d ++ (left_brace ∷ x ++ (w ++ rest))))) → Stands (λ t. transaction_part t (request (transaction id xs))) Solid from rest
transaction_of_lem {a} {b} {c} {d} {w} from rest k e n v (closed {a = x} {b = y} {c = z} i l j) g o h = record {
  bytes = a ++ b ++ c ++ (d ++ left_brace ∷ x) ++ y ++ (z ++ right_brace ∷ w);
  derives = a_request (with_actions k e n (around v i) l (around j g));
  split =
      h ∙ ap (λ r. a ++ (b ++ (c ++ (d ++ left_brace ∷ r)))) (closed_split x y z (w ++ rest))
      ∙ sym (regroup_request a b c d (left_brace ∷ x) y z (right_brace ∷ w) rest);
  stops = o;
}

-- ---- transactions

pub data TransactionsRead : ℕ → List ℕ → Message → Type 0 where
  reads : {k : ℕ} {t : List ℕ} {xs : List Part} → transaction_list t xs → length xs ≤ k → TransactionsRead k t (well_formed xs)
  faults : {k n id : ℕ} {t w c : List ℕ} → Whole n w → n < k → BadTransaction c id → t ≡ w ++ c → TransactionsRead k t (fault403 id)
  other : {k : ℕ} {t : List ℕ} → TransactionsRead k t fault400

-- a whole one before
outcome_next : {k : ℕ} {t from : List ℕ} {x : Part} {m : Message} → Stands (λ a. transaction_part a x) Solid from t → TransactionsRead k t m
    → TransactionsRead (suc k) from (followed x m)
unfolding followed
outcome_next {k} y (reads xs l) = rw y.split (reads {k = suc k} (next_part y.derives xs) (omega arith))
outcome_next {k} y (faults {w} {c} o l b e) =
    faults {k = suc k} (one_more y.derives o) (omega arith) b (y.split ∙ rw e (sym (append_assoc y.bytes w c)))
outcome_next y other = other

outcome_last : {k : ℕ} {from : List ℕ} {x : Part} → Stands (λ a. transaction_part a x) Solid from []
    → TransactionsRead (suc k) from (well_formed (x ∷ []))
outcome_last {k} y = rw (y.split, append-nil) (reads {k = suc k} (last_part y.derives) (omega arith))

pub opening_split : (a b c d t : List ℕ) → a ++ b ++ c ++ (d ++ left_brace ∷ []) ++ t ≡ a ++ (b ++ (c ++ (d ++ left_brace ∷ t)))
opening_split a b c d t = regroup4 a b c (d ++ left_brace ∷ []) t ∙ ap (λ r. a ++ (b ++ (c ++ r))) (append_assoc d (left_brace ∷ []) t)

-- what follows one that was read
outcome_of : (s : List ℕ) (k at f : ℕ) (x : Part) → Stands (λ a. transaction_part a x) Solid (drop at s) (drop f s) → TransactionsRead k (drop f s) (transactions_r k s f)
    → TransactionsRead (suc k) (drop at s) (end_or (transactions_r k s) x s f)
unfolding end_or
outcome_of s k at f x y r =
    by_pick (TransactionsRead (suc k) (drop at s)) (ltb f (length s)) _ _
    (λ l. outcome_next y r)
    (λ l. outcome_last (rw (drop_of_length-le s (ltb-false f (length s) l)) at y))

ack_stands : {from rest : List ℕ} {ks : List Ack} → Stands (λ a. transaction_response_ack a ks) Solid from rest → Stands (λ a. transaction_part a (acknowledge ks)) Solid from rest
ack_stands y = record { bytes = y.bytes; derives = an_ack y.derives; split = y.split; stops = y.stops }

acks_read : (s : List ℕ) (k at : ℕ) → spells ResponseAckToken (word_here s at) ≡ true → ((f : ℕ) → TransactionsRead k (drop f s) (transactions_r k s f))
    → TransactionsRead (suc k) (drop at s) (acks_then (transactions_r k s) s at)
unfolding acks_then
acks_read s k at t r =
    by_acknowledged (TransactionsRead (suc k) (drop at s)) (acks_r s at) _ other (λ ks e i.
    outcome_of s k at e (acknowledge ks) (ack_stands (acks_got s ks at e (λ p m. rw (word_read s at p m) at t) i)) (r e))

pub transactions_read : (s : List ℕ) (k at : ℕ) → TransactionsRead k (drop at s) (transactions_r k s at)
unfolding transactions_r request_then braces_then
transactions_read s zero at = other
transactions_read s (suc k) at =
    by_pick P (spells ResponseAckToken (word_here s at)) _ _ (λ t. acks_read s k at t (transactions_read s k)) (λ t.
    by_elsewhere P (key_at TransToken s at) _ other (λ p m. given (key_sound TransToken s at p m) (λ y₁.
    by_numbered P (number_at s p 10 4294967295) _ other (λ id q n. given (number_sound s p 10 4294967295 id q n) (λ y₂.
    by_pick P (eqb id 0) _ _
    (λ z. faults {k = suc k} none_whole (omega arith)
    (zero_identifier y₁.2 y₁.3 (rw (eqb-true id 0 z) at y₂.derives) (stops_without is_digit (text "0123456789") digit_has digit_0 (drop q s)
    y₂.stops))
    (y₁.4 ∙ rw y₂.split (simp append_assoc)))
    (λ z. given (identifier y₂.derives (omega (arith, eqb-false id 0 z))) (λ x.
    by_elsewhere P (after (white_at s q) (mark_at left_brace s)) _ other (λ r o. after_next _ _ r o (λ f w o.
    given (white_sound s q f w) (λ y₃. given (mark_sound s f left_brace r (omega arith) o) (λ y₄.
    given (y₁.4 ∙ rw (y₂.split, y₃.split, y₄)) (λ g.
    by_inside P id (actions_r s r) _
    (λ i. faults {k = suc k} none_whole (omega arith)
    (unclosed y₁.2 y₁.3 x y₃.derives (λ c t xs l j. fault_got xs _ (sym i ∙ (actions_complete s t r j l).is)))
    (g ∙ sym (opening_split y₁.0 y₁.1 y₂.bytes y₃.bytes (drop r s))))
    (λ xs e i. given (actions_sound s xs r e i) (λ y₅.
    by_elsewhere P (white_at s e) _ other (λ f w. given (white_sound s e f w) (λ y₆.
    given (transaction_of_lem (drop at s) (drop f s) y₁.2 y₁.3 x y₃.derives y₅.derives y₆.derives y₆.stops
    (g ∙ rw (y₅.split, y₆.split))) (λ y.
    outcome_of s k at f (request (transaction id xs)) y (transactions_read s k f))))))))))))))))))
  where
    P : Message → Type 0
    P = TransactionsRead (suc k) (drop at s)

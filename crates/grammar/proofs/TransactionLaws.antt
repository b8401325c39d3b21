-- Transactions and acknowledgements are read exactly as the grammar derives them.
use Rattle.std.specs.Prelude.{Some}
use Prim.Native.Nat.{ℕ, zero, suc, ◌-◌, ◌<◌, ◌≤◌}
use mathlib.Core.Path.{◌≡◌, refl, sym, ap, ◌∙◌}
use mathlib.Core.Bool.{true, false}
use mathlib.Core.List.{List, [], ◌∷◌, ◌++◌, append_assoc, append-nil}
use lib.ListN.{length, drop, length-drop}
use lib.Dec.{eqb, ltb}
use borrow.Author.Tests.{ne_eqb, lt-ltb, le-ltb}
use native.Mathlib.Omega.{arith}
use Rattle.base.specs.Pick.{pick}
use Rattle.base.specs.Lists.{has, same}
use Rattle.base.specs.Bytes.{text}
use Rattle.megaco.specs.Bytes.{left_brace, right_brace, is_white}
use Rattle.megaco.specs.White.{goes_on, white_at}
use Rattle.megaco.specs.Tokens.{mark_at}
use Rattle.megaco.specs.Tree.{Action, Transaction, transaction, Part, request, acknowledge, Message, well_formed}
use Rattle.megaco.specs.Reading.{got, list_r, action_r, word_here, actions_r, elsewhere, numbered, inside, acknowledged, followed, end_or, braces_then, request_then, acks_then, transactions_r}
use Rattle.megaco.specs.Keywords.{forms_of, spelt, spells}
use Rattle.protocol.specs.Types.{TransToken, ResponseAckToken, Ack}
use Rattle.grammar.specs.Characters.{Keyword}
use Rattle.grammar.specs.Grammar.{LWSP, around, EQUAL, Commas, AtMost, NAME, name, action_request, TransactionID, identifier, transaction_request, with_actions, transaction_response_ack, with_acks, transaction_part, a_request, an_ack, transaction_list, last_part, next_part}
use Rattle.grammar.specs.Faults.{Closed, closed}
use Rattle.grammar.proofs.Places.{regroup3, regroup4, regroup6, regroup_request, Any, Stands, Gets, gets_here, gets_skip, gets_bind, finds_after, given, got_same, skip_got, bind_got}
use Rattle.grammar.proofs.WhiteLaws.{Solid, solid_end, white_complete, white_sound}
use Rattle.grammar.proofs.RowLaws.{mark_complete, mark_sound, number_complete}
use Rattle.grammar.proofs.FollowLaws.{white_ends, around_ends, ends_word, ends_digit}
use Rattle.grammar.proofs.WordLaws.{trans_name, ack_name, keyword_spells}
use Rattle.grammar.proofs.ListLaws.{key_complete, Complete, list_complete, list_sound}
use Rattle.grammar.proofs.ItemLaws.{name_solid}
use Rattle.grammar.proofs.PropertyLaws.{uint_solid, word_here_lem}
use Rattle.grammar.proofs.TopologyLaws.{keyword_only}
use Rattle.grammar.proofs.AckLaws.{acks_reads}
use Rattle.grammar.proofs.ActionLaws.{action_complete, action_sound}

-- ---- from behind the opening brace through the closing one

pub closed_split : (a b c t : List ℕ) → (a ++ b ++ (c ++ right_brace ∷ [])) ++ t ≡ a ++ (b ++ (c ++ right_brace ∷ t))
closed_split a b c t = regroup3 a b (c ++ right_brace ∷ []) t ∙ ap (λ r. a ++ (b ++ r)) (append_assoc c (right_brace ∷ []) t)

module _ (s : List ℕ) where
  abbrev the_actions : Complete (AtMost 16 (Commas action_request)) (text "}") s (list_r (action_r s) s 16)
  the_actions = list_complete action_request s (action_r s) (action_complete s) 16

  pub actions_complete : {a : List ℕ} {xs : List Action} (t : List ℕ) (at : ℕ) → Closed a xs → drop at s ≡ a ++ t → Gets s (actions_r s at) xs t
  unfolding actions_r has pick
  actions_complete t at (closed {a} {b} {c} {xs} v y w) h =
      let g : drop at s ≡ a ++ (b ++ (c ++ right_brace ∷ t)) = h ∙ closed_split a b c t in
      gets_skip s (white_at s at) _ (white_complete s _ at v (the_actions.solid b (c ++ right_brace ∷ t) xs y) g) (λ p m.
      gets_bind s xs (list_r (action_r s) s 16 p) _ (the_actions.reads b c (right_brace ∷ t) xs p y w (record { first = refl }) m) (λ p m.
      gets_skip s (mark_at right_brace s p) _ (mark_complete s p right_brace t m) (λ p m. gets_here s xs p t m)))

  pub actions_sound : (xs : List Action) (at e : ℕ) → actions_r s at ≡ got xs e → Stands (λ a. Closed a xs) Any (drop at s) (drop e s)
  unfolding actions_r
  actions_sound xs at e h =
      skip_got xs e (white_at s at) _ h (λ p m l. bind_got xs e (list_r (action_r s) s 16 p) _ l (λ ys q n l. skip_got xs e (mark_at right_brace s q) _ l
      (λ r o l. given (got_same xs e l) (λ z.
      given (white_sound s at p m) (λ y₁.
      given ((list_sound action_request s (action_r s) (action_sound s) 16).finds ys p q n) (λ y₂.
      given (mark_sound s q right_brace e (omega arith) (o ∙ ap Some z.1)) (λ y₃. record {
        bytes = y₁.bytes ++ y₂.bytes ++ (y₂.white ++ right_brace ∷ []);
        derives = rw (← z.0) (closed y₁.derives y₂.derives y₂.is_white);
        split = y₁.split ∙ rw (y₂.split, y₃) (sym (closed_split y₁.bytes y₂.bytes y₂.white (drop e s)));
        stops = tt;
      })))))))

-- ---- from `T` through the opening brace

-- what is read from behind the opening brace of transaction id
abbrev pub opened : List ℕ → ℕ → ℕ → ℕ → Message
opened s k id p = inside id (actions_r s p) (λ acts q. elsewhere (white_at s q) (λ e. end_or (transactions_r k s) (request (transaction id acts)) s e))

pub record Opens (s : List ℕ) (at id : ℕ) (t : List ℕ) : Type 0 where
  pub end : ℕ
  pub is : (k : ℕ) → transactions_r (suc k) s at ≡ opened s k id end
  pub leaves : drop end s ≡ t

-- its word is no acknowledgement's
trans_only : (a : List ℕ) → Keyword TransToken a → spells ResponseAckToken a ≡ false
unfolding forms_of spelt same pick
trans_only a x = keyword_only TransToken ResponseAckToken a x refl

pub no_ack : (s rest : List ℕ) {a b : List ℕ} (at : ℕ) → Keyword TransToken a → EQUAL b → drop at s ≡ a ++ (b ++ rest) → spells ResponseAckToken (word_here s at) ≡ false
unfolding has pick
no_ack s rest {a} at k e h = rw (word_here_lem s _ at (trans_name k) (ends_word (around_ends rest refl e)) h) (trans_only a k)

pub opening_complete : (s t : List ℕ) {a b c d : List ℕ} {id : ℕ} (at : ℕ) → Keyword TransToken a → EQUAL b → TransactionID c id → LWSP d
    → drop at s ≡ a ++ (b ++ (c ++ (d ++ left_brace ∷ t)))
    → Opens s at id t
unfolding transactions_r request_then braces_then elsewhere numbered has pick goes_on is_white
opening_complete s t {a} {b} {c} {d} {id} at k e (identifier n l) w h =
    given (no_ack s _ at k e h) (λ v.
    given (key_complete TransToken s _ at k (trans_name k) e (uint_solid _ n) h) (λ x.
    given (number_complete s _ x.end 10 4294967295 n (ends_digit (white_ends w (record { first = refl }))) x.leaves) (λ y.
    given (finds_after s (white_at s y.end) (mark_at left_brace s) (white_complete s (left_brace ∷ t) y.end w refl y.leaves)
    (λ p m. mark_complete s p left_brace t m)) (λ z.
    let i : eqb id 0 ≡ false = ne_eqb id 0 (λ f. omega arith) in
    record { end = z.end; is = λ j. rw (v, x.is, y.is, i, z.is); leaves = z.leaves }))))

-- ---- a whole transaction

pub record Comes (s : List ℕ) (at : ℕ) (x : Part) (t : List ℕ) : Type 0 where
  pub end : ℕ
  pub is : (k : ℕ) → transactions_r (suc k) s at ≡ end_or (transactions_r k s) x s end
  pub leaves : drop end s ≡ t

transaction_complete : (s t : List ℕ) {a : List ℕ} {x : Transaction} (at : ℕ) → transaction_request a x → Solid t → drop at s ≡ a ++ t
    → Comes s at (request x) t
unfolding inside elsewhere
transaction_complete s t at (with_actions {a} {b} {c} {e} {id} {xs} k q n (around {a = u₁} {b = v₁} i₁ j₁) y (around {a = u₂} {b = v₂} i₂ j₂)) z h =
    let g : drop at s ≡ a ++ (b ++ (c ++ (u₁ ++ (left_brace ∷ v₁ ++ (e ++ (u₂ ++ (right_brace ∷ v₂ ++ t))))))) =
    h ∙ regroup_request a b c u₁ (left_brace ∷ v₁) e u₂ (right_brace ∷ v₂) t in
    given (opening_complete s (v₁ ++ (e ++ (u₂ ++ (right_brace ∷ v₂ ++ t)))) at k q n i₁ g) (λ o.
    given (actions_complete s (v₂ ++ t) o.end (closed j₁ y i₂) (o.leaves ∙ sym (closed_split v₁ e u₂ (v₂ ++ t)))) (λ r.
    given (white_complete s t r.end j₂ z r.leaves) (λ w.
    record { end = w.end; is = λ j. o.is j ∙ rw (r.is, w.is); leaves = w.leaves })))

-- ---- an acknowledgement

ack_word : (s t : List ℕ) {a : List ℕ} {ks : List Ack} (at : ℕ) → transaction_response_ack a ks → drop at s ≡ a ++ t → spells ResponseAckToken (word_here s at) ≡ true
unfolding has pick
ack_word s t at (with_acks {a} {b} {c} {d} k l y r) h =
    rw (word_here_lem s _ at (ack_name k) (ends_word (around_ends (c ++ (d ++ t)) refl l)) (h ∙ regroup4 a b c d t)) (keyword_spells ResponseAckToken a k)

ack_complete : (s t : List ℕ) {a : List ℕ} {ks : List Ack} (at : ℕ) → transaction_response_ack a ks → Solid t → drop at s ≡ a ++ t → Comes s at (acknowledge ks) t
unfolding transactions_r acks_then acknowledged pick
ack_complete s t at y z h = given (acks_reads s t at y z h) (λ r. record { end = r.end; is = λ j. rw (ack_word s t at y h, r.is); leaves = r.leaves })

pub part_complete : (s t : List ℕ) {a : List ℕ} {x : Part} (at : ℕ) → transaction_part a x → Solid t → drop at s ≡ a ++ t → Comes s at x t
part_complete s t at (a_request y) z h = transaction_complete s t at y z h
part_complete s t at (an_ack y) z h = ack_complete s t at y z h

-- ---- the list of them, to the end of the message

name_long : {a : List ℕ} (t : List ℕ) → NAME a → 0 < length (a ++ t)
name_long t (name h m l) = omega arith

pub part_solid : {a : List ℕ} {x : Part} (t : List ℕ) → transaction_part a x → Solid (a ++ t)
part_solid t (a_request (with_actions {a} {b} {c} {d} {e} {f} k q n i y j)) = rw (regroup6 a b c d e f t) (name_solid _ (trans_name k))
part_solid t (an_ack (with_acks {a} {b} {c} {d} k l y r)) = rw (regroup4 a b c d t) (name_solid _ (ack_name k))

pub part_long : {a : List ℕ} {x : Part} (t : List ℕ) → transaction_part a x → 0 < length (a ++ t)
part_long t (a_request (with_actions {a} {b} {c} {d} {e} {f} k q n i y j)) = rw (regroup6 a b c d e f t) (name_long _ (trans_name k))
part_long t (an_ack (with_acks {a} {b} {c} {d} k l y r)) = rw (regroup4 a b c d t) (name_long _ (ack_name k))

pub list_solid : {a : List ℕ} {xs : List Part} → transaction_list a xs → Solid a
list_solid (last_part {a} x) = rw append-nil at (part_solid [] x)
list_solid (next_part {b} x xs) = part_solid b x

list_long : {a : List ℕ} {xs : List Part} → transaction_list a xs → 0 < length a
list_long (last_part {a} x) = rw append-nil at (part_long [] x)
list_long (next_part {b} x xs) = part_long b x

-- the end of the message, or more of it
at_end_lem : (s : List ℕ) (e : ℕ) → drop e s ≡ [] → ltb e (length s) ≡ false
at_end_lem s e h = let n : length s - e ≡ 0 = sym (length-drop e s) ∙ ap length h in le-ltb e (length s) (omega arith)

pub more_of : (s t : List ℕ) (e : ℕ) → drop e s ≡ t → 0 < length t → ltb e (length s) ≡ true
more_of s t e h l = let n : length s - e ≡ length t = sym (length-drop e s) ∙ ap length h in lt-ltb e (length s) (omega arith)

pub list_well_formed : (s : List ℕ) (k : ℕ) {a : List ℕ} {xs : List Part} (at : ℕ) → transaction_list a xs → length xs ≤ k → drop at s ≡ a
    → transactions_r k s at ≡ well_formed xs
unfolding end_or followed pick
list_well_formed s zero at (last_part x) l h = absurd (omega arith)
list_well_formed s zero at (next_part x xs) l h = absurd (omega arith)
list_well_formed s (suc k) at (last_part {a} y) l h =
    given (part_complete s [] at y solid_end (h ∙ sym (append-nil a))) (λ r. r.is k ∙ rw (at_end_lem s r.end r.leaves))
list_well_formed s (suc k) at (next_part {b} y ys) l h = given (part_complete s b at y (list_solid ys) h) (λ r.
    r.is k ∙ rw (more_of s b r.end r.leaves (list_long ys), list_well_formed s k r.end ys (omega arith) r.leaves))

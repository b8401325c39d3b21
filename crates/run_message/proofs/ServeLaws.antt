-- A message's run with the kept replies, in the form in which `search` uses it.
use Rattle.std.specs.Prelude.{Some, None, Ok, Err}
use Prim.Native.Nat.{ℕ, suc, ◌+◌, ◌-◌, ◌<◌, ◌≤◌}
use mathlib.Core.Path.{◌≡◌, refl, sym, ap, ◌∙◌, subst}
use mathlib.Core.Bool.{Bool, true, false, ◌||◌}
use mathlib.Core.List.{List, [], ◌∷◌}
use mathlib.Core.Option.{none, some}
use native.Mathlib.Omega.{arith}
use lib.Dec.{ltb}
use lib.ListN.{length, take, drop, replicate, length-replicate}
use borrow.Author.Tests.{lt-ltb, le-ltb, ne_eqb}
use Rattle.base.specs.Pick.{pick}
use Rattle.base.specs.Lists.{is_at, part}
use Rattle.base.specs.Bytes.{text, ◌then◌}
use Rattle.base.specs.Out.{Appended}
use Rattle.base.proofs.TextLaws.{length_then, length_decimal}
use Rattle.base.proofs.OutLaws.{none as nothing, take_put, same_length_by, ◌▸◌}
use Rattle.protocol.specs.Types.{Ack, Parsed, Number, TransToken}
use Rattle.megaco.specs.Table.{sound}
use Rattle.megaco.specs.State.{State, state}
use Rattle.megaco.specs.Tree.{Transaction, Part, request}
use Rattle.megaco.specs.Kept.{find, acked}
use Rattle.megaco.specs.Room.{Room, room, slot_reply, kept_of, slot_in, found_in, drop_in}
use Rattle.megaco.specs.Transaction.{run_transaction}
use Rattle.megaco.specs.Message.{Served, served, identifier, answered, drop_all, run_part, run_parts, run_message}
use Rattle.megaco.specs.Tokens.{number_at}
use Rattle.megaco.specs.Reply.{error_text, reply_text}
use Rattle.megaco.specs.Reading.{unlimited, key_at, message_r, sender_of}
use Rattle.megaco.specs.Bytes.{comma, right_brace}
use Rattle.read_command.specs.Production.{value_in, number_after, past_sign, list_of, list_end}
use Rattle.read_command.specs.Places.{ack_at, acks_at, acks_start, acknowledgement_at, actions_at}
use Rattle.read_command.specs.Messages.{Verdict, identifier_at, transaction_of, closing_end, transaction_end, is_acknowledgement, acks_of, acknowledgement_end, part_of, part_end, header_end, transactions_at, message_at, message_of, message_by, message_law, verdict_of, verdict_is}
use Rattle.read_command.specs.Pieces.{Holds}
use Rattle.read_command.specs.declared.Piece.{Piece}
use Rattle.read_command.specs.declared.Fault.TheVariants.{Fault400, Fault403, WrongVersion406}
use Rattle.command_places.specs.Found.{next_at}
use Rattle.command_places.proofs.NextLaws.{part_last, part_more}
use Rattle.action_places.specs.ActionPlaces.{transaction_places, transaction_from, transaction_from_end, ack_places, sender_start, sender_end, sender_here}
use Rattle.action_places.specs.declared.TransactionPlaces.{TransactionPlaces}
use Rattle.action_places.specs.declared.AckPlaces.{AckPlaces}
use Rattle.action_places.proofs.ActionPlaceLaws.{transaction_ends}
use Rattle.room.specs.Keeping.{keep_fitting}
use Rattle.room.proofs.KeepLaws.{keep_fits}
use Rattle.laws.proofs.Kept.{part_sound}
use Rattle.laws.proofs.RoomWhole.{find_in}
use Rattle.laws.proofs.Bounds.{Within, number_within, transaction_fits}
use Rattle.reply.specs.Texts.{reply_open, limited_from}
use Rattle.run_action.specs.Fold.{run_actions}
use Rattle.run_action.proofs.ActsLaws.{transaction_text_lem}
use Rattle.run_message.specs.declared.ServedMessage.{ServedMessage}
use Rattle.run_message.proofs.SenderLaws.{sender_is}
use Rattle.run_action.specs.Promises.{Wrote}
use Rattle.run_message.specs.Serves.{Serves, Concluded, RanKept}

-- ---- a reply in a scratch buffer

pub concludes : (m : List ℕ) (id n : ℕ) (x z : List ℕ) (r r' : Room) (o : List ℕ) (p : ℕ) (o' : List ℕ) (q : ℕ) → x ≡ take n (drop 0 z)
    → r' ≡ keep_fitting m id x r → Appended o p x o' q → Concluded m id (take n z) r o p r' o' q
concludes m id n x z r r' o p o' q e f g = record { room = f ∙ rw e; text = rw e at g }

error_short : (id : ℕ) → id ≤ 4294967295 → length (reply_text id (error_text 533)) ≤ 32
unfolding reply_text error_text
error_short id h = simp length_then (omega (arith, length_decimal id h, length_decimal 533 (omega arith)))

module _ (m : List ℕ) (id n : ℕ) (z : List ℕ) (r r' : Room) (o : List ℕ) (p : ℕ) (o' : List ℕ) (q : ℕ) where
  pub limits_none : n < 2049 → Concluded m id (take n z) r o p r' o' q → Concluded m id (limited_from id z n) r o p r' o' q
  unfolding limited_from pick
  limits_none h c = rw (lt-ltb n 2049 h) c

  pub limits : 2049 ≤ n → id ≤ 4294967295 → (y y' : List ℕ) (k : ℕ) → y ≡ replicate 32 0 → Appended y 0 (limited_from id z n) y' k → Concluded m id (take k y') r o p r' o' q
      → Concluded m id (limited_from id z n) r o p r' o' q
  limits h l y y' k e a c =
      let x : List ℕ = limited_from id z n in
      let f : length y ≡ 32 = ap length e ∙ length-replicate {A = ℕ} 32 0 in
      let g : x ≡ reply_text id (error_text 533) = unfold limited_from pick in rw (le-ltb n 2049 h) in
      let s : length x ≤ 32 = subst (λ (b : List ℕ). length b ≤ 32) (sym g) (error_short id l) in
      let j : k ≡ length x = omega (arith, a.next) in
      let u : take k y' ≡ x = rw (a.text, j) (take_put y x (omega arith)) in
      subst (λ (b : List ℕ). Concluded m id b r o p r' o' q) u c

-- ---- a transaction whose parts are found

from_is : (s : List ℕ) (i : ℕ) (a : TransactionPlaces) → a ≡ transaction_places s i → transaction_from s a ≡ transaction_of s i
unfolding transaction_from transaction_of transaction_places
from_is s i a e = rw e

pub from_ends : (s : List ℕ) (i : ℕ) (a : TransactionPlaces) (k : ℕ) → a ≡ transaction_places s i → k ≡ transaction_from_end s a → k ≡ transaction_end s i
unfolding transaction_from_end
from_ends s i a k e f = f ∙ transaction_ends s i _ _ a e refl refl

pub transaction_runs : (s : List ℕ) (a : TransactionPlaces) (mid : List ℕ) (t : State) (z z₁ z₂ z₃ : List ℕ) (n m e : ℕ) (t' : State) (r : Room) (o : List ℕ) (p : ℕ) (r' : Room) (o' : List ℕ) (q : ℕ)
    → z ≡ replicate 2049 0 → Appended z 0 (reply_open a.id) z₁ n → Wrote (run_actions (actions_at s a.body).tree true t) z₁ n t' z₂ m → Appended z₂ m (text "}") z₃ e
    → Concluded mid a.id (limited_from a.id z₃ e) r o p r' o' q → RanKept mid a.id (run_transaction (transaction_from s a) t) r o p t' r' o' q
unfolding transaction_from
transaction_runs s a mid t z z₁ z₂ z₃ n m e t' r o p r' o' q g f w h c =
    let x = transaction_text_lem a.id (actions_at s a.body).tree t z z₁ z₂ z₃ n m e t' g f w h in
    record { state = x.0; reply = subst (λ (b : List ℕ). Concluded mid a.id b r o p r' o' q) x.1 c }

pub transaction_closes : (s : List ℕ) (a : TransactionPlaces) (e r : ℕ) → e ≡ (actions_at s a.body).end → r ≡ closing_end s e → r ≡ transaction_from_end s a
unfolding transaction_from_end
transaction_closes s a e r f g = g ∙ rw f

-- the scratch buffer is of 2,049 bytes
pub scratch_fits : (z o : List ℕ) (p : ℕ) (bs : List ℕ) (r : ℕ) → z ≡ replicate 2049 0 → Appended z p bs o r → length o ≤ 2049
scratch_fits z o p bs r e a =
    let l : length z ≡ 2049 = ap length e ∙ length-replicate {A = ℕ} 2049 0 in
    let q : length o ≡ length z = same_length_by z p bs o r a in
    omega arith

-- ---- a request

got_low : (n : Number) → Within 4294967295 n → value_in n ≤ 4294967295
unfolding value_in
got_low (Some (v, p)) h = h
got_low None h = omega arith

id_low : (s : List ℕ) (i : ℕ) → value_in (identifier_at s i) ≤ 4294967295
unfolding identifier_at number_after
id_low s i = by (key_at TransToken s i)
  where
    by : (x : Parsed) → value_in (number_after x (λ p. number_at s p 10 4294967295)) ≤ 4294967295
    by (Some p) = got_low (number_at s p 10 4294967295) (number_within s p 10 4294967295)
    by None = got_low None tt

request_fits : (s : List ℕ) (i : ℕ) (t : State) → length (run_transaction (transaction_of s i) t).text ≤ 2048
unfolding transaction_of run_transaction
request_fits s i t = transaction_fits (value_in (identifier_at s i)) _ (id_low s i)

pub id_within : (s : List ℕ) (i : ℕ) (a : TransactionPlaces) → a ≡ transaction_places s i → a.id ≤ 4294967295
unfolding transaction_places
id_within s i a e = rw e (id_low s i)

id_is : (s : List ℕ) (i : ℕ) (a : TransactionPlaces) → a ≡ transaction_places s i → identifier (transaction_of s i) ≡ a.id
unfolding transaction_of transaction_places identifier
id_is s i a e = rw e

module _ (s : List ℕ) (i : ℕ) (m : List ℕ) (t : State) (w b o : List ℕ) (p : ℕ) (a : TransactionPlaces) (n : ℕ)
    (e : a ≡ transaction_places s i) (f : n ≡ slot_in (room w b) m a.id (take 16 w)) where
  found : find m (identifier (transaction_of s i)) (kept_of (room w b)) ≡ found_in (room w b) n
  found = ap (λ (x : ℕ). find m x (kept_of (room w b))) (id_is s i a e) ∙ find_in (room w b) m a.id ∙ ap (found_in (room w b)) (sym f)

  pub runs_new : n ≡ 0 → length m ≤ 72 → (t' : State) (w' b' o' : List ℕ) (q : ℕ) → RanKept m a.id (run_transaction (transaction_from s a) t) (room w b) o p t' (room w' b') o' q
      → Serves (run_part m (request (transaction_of s i)) t (room w b)) o p t' (room w' b') o' q true
  unfolding run_part answered found_in pick
  runs_new h l t' w' b' o' q y =
      let x : List ℕ = (run_transaction (transaction_of s i) t).text in
      let v : RanKept m a.id (run_transaction (transaction_of s i) t) (room w b) o p t' (room w' b') o' q =
      subst (λ (j : Transaction). RanKept m a.id (run_transaction j t) (room w b) o p t' (room w' b') o' q) (from_is s i a e) y in
      let d : find m (identifier (transaction_of s i)) (kept_of (room w b)) ≡ none = found ∙ rw h in
      rw d (record { state = v.state; room = v.reply.room ∙ keep_fits m a.id x (room w b) l (request_fits s i t) ∙ rw (id_is s i a e); text = v.reply.text; told_is = refl })

  pub answers_kept : (n ≡ 0 → ⊥) → (o' : List ℕ) (q : ℕ) → Appended o p (slot_reply (room w b) n) o' q
      → Serves (run_part m (request (transaction_of s i)) t (room w b)) o p t (room w b) o' q true
  unfolding run_part answered found_in pick
  answers_kept h o' q x =
      let d : find m (identifier (transaction_of s i)) (kept_of (room w b)) ≡ some (slot_reply (room w b) n) = found ∙ rw (ne_eqb n 0 h) in
      rw d (record { state = refl; room = refl; text = x; told_is = refl })

-- ---- an acknowledgement: what was named so far is dropped

pub record Dropping (x : Room) (e : ℕ) (m s : List ℕ) (n i : ℕ) (r : Room) : Type 0 where
  pub room : x ≡ drop_all m (list_of (λ j. (ack_at s j).tree) (λ j. (ack_at s j).end) s (length s + 1 - n) i) r
  pub end : e ≡ list_end (λ j. (ack_at s j).end) s (length s + 1 - n) i

pub drop_begins : (m s : List ℕ) (at : ℕ) (r : Room) → Dropping (drop_all m (acks_at s at).tree r) (acks_at s at).end m s 0 at r
unfolding acks_at unlimited
drop_begins m s at r = let z : length s + 1 - 0 ≡ length s + 1 = omega arith in record { room = rw z; end = rw z }

module _ (x : Room) (e : ℕ) (m s : List ℕ) (n i : ℕ) (w b : List ℕ) (l : Dropping x e m s n i (room w b)) where
  pub none_dropped : length s < n → room w b ≡ x
  unfolding list_of drop_all
  none_dropped h = let z : length s + 1 - n ≡ 0 = omega arith in sym (l.room ∙ rw z)

  pub none_ends : length s < n → i ≡ e
  unfolding list_end
  none_ends h = let z : length s + 1 - n ≡ 0 = omega arith in sym (l.end ∙ rw z)

  module _ (h : n ≤ length s) (a : AckPlaces) (p : a ≡ ack_places s i) (w₂ : List ℕ) (d : room w₂ b ≡ drop_in (acked m a.ack.first a.ack.last) (room w b)) where
    abbrev left : ℕ
    left = length s + 1 - (n + 1)

    ack_is : (ack_at s i).tree ≡ a.ack
    unfolding ack_places
    ack_is = sym (ap (λ (y : AckPlaces). y.ack) p)

    end_is : a.end ≡ (ack_at s i).end
    unfolding ack_places
    end_is = ap (λ (y : AckPlaces). y.end) p

    beyond : ℕ → List Ack
    beyond j = list_of (λ k. (ack_at s k).tree) (λ k. (ack_at s k).end) s left j

    further : ℕ → ℕ
    further j = list_end (λ k. (ack_at s k).end) s left j

    room_open : x ≡ drop_all m (pick (is_at s (ack_at s i).end comma) (beyond (past_sign comma s (ack_at s i).end)) []) (room w₂ b)
    unfolding list_of drop_all beyond
    room_open = let z : length s + 1 - n ≡ suc left = omega arith in l.room ∙ rw (z, ack_is, d)

    end_open : e ≡ pick (is_at s (ack_at s i).end comma) (further (past_sign comma s (ack_at s i).end)) (ack_at s i).end
    unfolding list_end further
    end_open = let z : length s + 1 - n ≡ suc left = omega arith in l.end ∙ rw z

    module _ (y : Parsed) (g : y ≡ next_at s a.end) where
      pub last_dropped : y ≡ None → room w₂ b ≡ x
      unfolding drop_all
      last_dropped f = sym (room_open ∙ ap (λ (ks : List Ack). drop_all m ks (room w₂ b)) (part_last s a.end (ack_at s i).end end_is y g beyond [] f))

      pub last_ends : y ≡ None → a.end ≡ e
      last_ends f = end_is ∙ sym (end_open ∙ part_last s a.end (ack_at s i).end end_is y g further (ack_at s i).end f)

      pub drops_more : (u : ℕ) → y ≡ Some u → Dropping x e m s (n + 1) u (room w₂ b)
      unfolding beyond further
      drops_more u f =
          record {
            room = room_open ∙ ap (λ (ks : List Ack). drop_all m ks (room w₂ b)) (part_more s a.end (ack_at s i).end end_is y g beyond [] u f);
            end = end_open ∙ part_more s a.end (ack_at s i).end end_is y g further (ack_at s i).end u f;
          }

pub acks_drop : (s : List ℕ) (i at : ℕ) (m : List ℕ) (x r : Room) → at ≡ acks_start s i → x ≡ drop_all m (acks_at s at).tree r → x ≡ drop_all m (acks_of s i) r
unfolding acks_of acknowledgement_at acks_start
acks_drop s i at m x r e f = f ∙ rw e

pub acks_end : (s : List ℕ) (i at e k : ℕ) → at ≡ acks_start s i → e ≡ (acks_at s at).end → k ≡ past_sign right_brace s e → k ≡ acknowledgement_end s i
unfolding acknowledgement_end acknowledgement_at acks_start
acks_end s i at e k f g h = h ∙ rw (g, f)

-- ---- one of the eight

module _ (s : List ℕ) (i : ℕ) (m : List ℕ) (t : State) (w b o : List ℕ) (p : ℕ) (x : Bool) (e : x ≡ is_acknowledgement s i) where
  pub part_acked : x ≡ true → (w' : List ℕ) → room w' b ≡ drop_all m (acks_of s i) (room w b) → Serves (run_part m (part_of s i) t (room w b)) o p t (room w' b) o p false
  unfolding part_of run_part pick
  part_acked h w' g = rw (← e, h) (record { state = refl; room = g; text = nothing o p; told_is = refl })

  pub part_served : x ≡ false → (t' : State) (w' b' o' : List ℕ) (q : ℕ) → Serves (run_part m (request (transaction_of s i)) t (room w b)) o p t' (room w' b') o' q true
      → Serves (run_part m (part_of s i) t (room w b)) o p t' (room w' b') o' q true
  unfolding part_of pick
  part_served h t' w' b' o' q g = rw (← e, h) g

module _ (s : List ℕ) (i : ℕ) (x : Bool) (e : x ≡ is_acknowledgement s i) where
  pub part_ack_end : x ≡ true → (k : ℕ) → k ≡ acknowledgement_end s i → k ≡ part_end s i
  unfolding part_end pick
  part_ack_end h k f = f ∙ rw (← e, h)

  pub part_end_lem : x ≡ false → (k : ℕ) → k ≡ transaction_end s i → k ≡ part_end s i
  unfolding part_end pick
  part_end_lem h k f = f ∙ rw (← e, h)

-- ---- at most eight, in order: what is left leads to the whole

pub record Leads (x : Served) (o : List ℕ) (at : ℕ) (y : Served) (o₁ : List ℕ) (p : ℕ) (b : Bool) : Type 0 where
  pub to : (t' : State) (r' : Room) (o' : List ℕ) (q : ℕ) (c : Bool) → Serves y o₁ p t' r' o' q c → Serves x o at t' r' o' q (b || c)

pub message_begins : (m s : List ℕ) (i : ℕ) (t : State) (r : Room) (o : List ℕ) (p : ℕ) → i ≡ header_end s
    → Leads (run_parts m (message_of s) t r) o p (run_parts m (transactions_at 8 s i).tree t r) o p false
unfolding message_at
message_begins m s i t r o p e = rw e (record { to = λ t' r' o' q c z. z })

or_none : (b : Bool) → b || false ≡ b
or_none true = refl
or_none false = refl

or_assoc : (a b c : Bool) → (a || b) || c ≡ a || (b || c)
or_assoc true b c = refl
or_assoc false b c = refl

no_more : (x : Served) (o : List ℕ) (at : ℕ) (m : List ℕ) (t : State) (r : Room) (o₁ : List ℕ) (p : ℕ) (c : Bool) → Leads x o at (run_parts m [] t r) o₁ p c → Serves x o at t r o₁ p c
unfolding run_parts
no_more x o at m t r o₁ p c l =
    subst (λ (y : Bool). Serves x o at t r o₁ p y) (or_none c) (l.to t r o₁ p false (record { state = refl; room = refl; text = nothing o₁ p; told_is = refl }))

module _ (x : Served) (o : List ℕ) (at : ℕ) (m s : List ℕ) (n i : ℕ) (t : State) (w b o₁ : List ℕ) (p : ℕ) (c : Bool)
    (l : Leads x o at (run_parts m (transactions_at (8 - n) s i).tree t (room w b)) o₁ p c) where
  pub parts_none : 8 ≤ n → Serves x o at t (room w b) o₁ p c
  unfolding transactions_at
  parts_none h =
      let e : 8 - n ≡ 0 = omega arith in
      no_more x o at m t (room w b) o₁ p c (subst (λ (j : ℕ). Leads x o at (run_parts m (transactions_at j s i).tree t (room w b)) o₁ p c) e l)

  module _ (h : n < 8) (t₂ : State) (w₂ b₂ o₂ : List ℕ) (q : ℕ) (d : Bool) (v : Serves (run_part m (part_of s i) t (room w b)) o₁ p t₂ (room w₂ b₂) o₂ q d) where
    abbrev others : List Part
    others = pick (ltb (part_end s i) (length s)) (transactions_at (8 - (n + 1)) s (part_end s i)).tree []

    tree_open : (transactions_at (8 - n) s i).tree ≡ part_of s i ∷ others
    unfolding transactions_at
    tree_open = let e : 8 - n ≡ suc (8 - (n + 1)) = omega arith in by (8 - n) (8 - (n + 1)) e
      where
        by : (a j : ℕ) → a ≡ suc j → (transactions_at a s i).tree ≡ part_of s i ∷ pick (ltb (part_end s i) (length s)) (transactions_at j s (part_end s i)).tree []
        by a j e = rw e

    opens : run_parts m (transactions_at (8 - n) s i).tree t (room w b)
        ≡ (let y = run_part m (part_of s i) t (room w b) in let z = run_parts m others y.state y.room in served z.state z.room (y.text then z.text) (y.told || z.told))
    unfolding run_parts
    opens = rw tree_open

    goes_past : Leads x o at (run_parts m others t₂ (room w₂ b₂)) o₂ q (c || d)
    goes_past =
        record {
          to = λ t' r' o' j a z.
              subst (λ (y : Bool). Serves x o at t' r' o' j y) (sym (or_assoc c d a)) (l.to t' r' o' j (d || a) (rw (opens, ← v.state, ← v.room, ← v.told_is)
              (record { state = z.state; room = z.room; text = v.text ▸ z.text; told_is = ap (λ (y : Bool). d || y) z.told_is })));
        }

    pub parts_last : (e : ℕ) → e ≡ part_end s i → length s ≤ e → Serves x o at t₂ (room w₂ b₂) o₂ q (c || d)
    unfolding pick
    parts_last e f g =
        let z : ltb (part_end s i) (length s) ≡ false = le-ltb (part_end s i) (length s) (rw (← f) g) in
        no_more x o at m t₂ (room w₂ b₂) o₂ q (c || d) (rw z at goes_past)

    pub parts_more : (e : ℕ) → e ≡ part_end s i → e < length s → Leads x o at (run_parts m (transactions_at (8 - (n + 1)) s e).tree t₂ (room w₂ b₂)) o₂ q (c || d)
    unfolding pick
    parts_more e f g =
        let z : ltb (part_end s i) (length s) ≡ true = lt-ltb (part_end s i) (length s) (rw (← f) g) in
        rw (z, ← f) at goes_past

-- a part leaves a sound table sound
pub serves_sound : (m : List ℕ) (x : Part) (t bs : List ℕ) (r : Room) (o : List ℕ) (p : ℕ) (t₂ bs₂ : List ℕ) (r₂ : Room) (o₂ : List ℕ) (q : ℕ) (d : Bool)
    → Serves (run_part m x (state t bs) r) o p (state t₂ bs₂) r₂ o₂ q d → sound t ≡ true → sound t₂ ≡ true
serves_sound m x t bs r o p t₂ bs₂ r₂ o₂ q d w h = subst (λ (u : State). sound u.table ≡ true) (sym w.state) (part_sound m x (state t bs) r h)

-- ---- a message by its verdict

pub here_served : (s : List ℕ) (y : Piece) (t : State) (r : Room) (o : List ℕ) (p : ℕ) (t' : State) (r' : Room) (o' : List ℕ) (q : ℕ) (c : Bool) → Holds s (sender_start s) (sender_end s) y
    → Serves (run_parts (part s y.from y.to) (message_of s) t r) o p t' r' o' q c → Serves (run_parts (sender_here s) (message_of s) t r) o p t' r' o' q c
unfolding sender_here
here_served s y t r o p t' r' o' q c h w = subst (λ (m : List ℕ). Serves (run_parts m (message_of s) t r) o p t' r' o' q c) h.bytes w

module _ (s : List ℕ) (t : State) (r : Room) (o : List ℕ) (p : ℕ) (v : Verdict) (e : v ≡ verdict_of (message_r s)) where
  as_read : (w : Verdict) → v ≡ w → message_r s ≡ message_by w (message_of s)
  as_read w f = message_law s ∙ ap (λ (y : Verdict). message_by y (message_of s)) (verdict_is s ∙ sym e ∙ f)

  pub reads_well : v ≡ Ok tt → (t' : State) (r' : Room) (o' : List ℕ) (q : ℕ) (c : Bool) → Serves (run_parts (sender_here s) (message_of s) t r) o p t' r' o' q c
      → Serves (run_message (sender_of s) (message_r s) t r) o p t' r' o' q c
  unfolding message_by run_message
  reads_well f t' r' o' q c w = rw (as_read (Ok tt) f, ← sender_is s (sym e ∙ f)) w

  module _ (o' : List ℕ) (q : ℕ) (y : ServedMessage) (g : (y.next ≡ q) × (y.told ≡ true)) where
    pub reads_400 : v ≡ Err Fault400 → Appended o p (error_text 400) o' q → Serves (run_message (sender_of s) (message_r s) t r) o p t r o' y.next y.told
    unfolding message_by run_message
    reads_400 f a = rw (as_read (Err Fault400) f, g.0) (record { state = refl; room = refl; text = a; told_is = g.1 })

    pub reads_403 : (id : ℕ) → v ≡ Err (Fault403 id) → Appended o p (reply_text id (error_text 403)) o' q → Serves (run_message (sender_of s) (message_r s) t r) o p t r o' y.next y.told
    unfolding message_by run_message
    reads_403 id f a = rw (as_read (Err (Fault403 id)) f, g.0) (record { state = refl; room = refl; text = a; told_is = g.1 })

    pub reads_406 : v ≡ Err WrongVersion406 → Appended o p (error_text 406) o' q → Serves (run_message (sender_of s) (message_r s) t r) o p t r o' y.next y.told
    unfolding message_by run_message
    reads_406 f a = rw (as_read (Err WrongVersion406) f, g.0) (record { state = refl; room = refl; text = a; told_is = g.1 })

-- Reading finds exactly what the grammar derives, with its one tree: a message is well-formed, with its tree, exactly when the grammar admits it with version 1; no text
-- has two trees; and each fault is told exactly where the grammar calls for it.
use Prim.Native.Nat.{ℕ}
use mathlib.Core.Path.{◌≡◌, refl, sym, ap, ◌∙◌, subst}
use mathlib.Core.Logic.{◌↔◌}
use mathlib.Core.Bool.{false}
use mathlib.Core.List.{List, ◌++◌, append_assoc}
use lib.ListN.{drop}
use lib.Dec.{eqb}
use borrow.Author.Tests.{eqb-true, eqb-false, ne_eqb}
use native.Mathlib.Omega.{arith}
use Rattle.base.specs.Pick.{pick}
use Rattle.base.specs.Bytes.{text}
use Rattle.megaco.specs.White.{goes_on}
use Rattle.megaco.specs.Tokens.{number_at}
use Rattle.megaco.specs.Tree.{Part, Message, well_formed, fault400, fault403, fault406}
use Rattle.megaco.specs.Reading.{elsewhere, numbered, start_at, sender_at, transactions_r, message_r, sender_of}
use Rattle.protocol.specs.Types.{number}
use Rattle.megaco.proofs.NumberParts.{same_value, same_next}
use Rattle.grammar.specs.Grammar.{at_most, Header, megaco_message, message}
use Rattle.grammar.specs.Faults.{Fault406, other_version, Fault403, bad_transaction}
use Rattle.grammar.proofs.Classes.{white_has}
use Rattle.grammar.proofs.Places.{Stands, given}
use Rattle.grammar.proofs.WhiteLaws.{Solid, solid_end}
use Rattle.grammar.proofs.HeaderLaws.{Headed, header_complete, header_sound}
use Rattle.grammar.proofs.TransactionLaws.{list_solid, list_well_formed}
use Rattle.grammar.proofs.OutcomeLaws.{by_elsewhere, by_numbered, by_pick, stops_without, without_stops, TransactionsRead, reads, faults, other, transactions_read}
use Rattle.grammar.proofs.FaultLaws.{whole_solid, whole_bad}

-- ---- what a message reads as, in the words of the grammar

data Meaning (s : List ℕ) : Message → Type 0 where
  admitted : {xs : List Part} → megaco_message s 1 (sender_of s) xs → Meaning s (well_formed xs)
  versioned : Fault406 s → Meaning s fault406
  in_transaction : {id : ℕ} → Fault403 s id → Meaning s (fault403 id)
  elsewhere_fault : Meaning s fault400

behind_header : {s t : List ℕ} {m : Message} (y : Stands (λ a. Header a 1 (sender_of s)) Solid s t) → TransactionsRead 8 t m → Meaning s m
behind_header {s} y (reads {xs} ys l) = admitted (subst (λ (z : List ℕ). megaco_message z 1 (sender_of s) xs) (sym y.split) (message y.derives (at_most ys l)))
behind_header y (faults {id} {w} {c} o l b e) =
    in_transaction (subst (λ (z : List ℕ). Fault403 z id) (sym (y.split ∙ rw e (sym (append_assoc y.bytes w c)))) (bad_transaction y.derives o (omega arith) b))
behind_header y other = elsewhere_fault

meaning : (s : List ℕ) → Meaning s (message_r s)
unfolding message_r
meaning s =
    by_elsewhere (Meaning s) (start_at s) _ elsewhere_fault (λ p m.
    by_numbered (Meaning s) (number_at s p 2 99) _ elsewhere_fault (λ v q n.
    by_elsewhere (Meaning s) (sender_at s q) _ elsewhere_fault (λ r o.
    given (header_sound s v p q r m n o) (λ y.
    by_pick (Meaning s) (eqb v 1) _ _
    (λ z. behind_header (rw (eqb-true v 1 z) at y) (transactions_read s 8 r))
    (λ z. versioned (subst Fault406 (sym y.split) (other_version y.derives (eqb-false v 1 z) (stops_without (goes_on false) (text " \t\r\n;") white_has solid_end
    (drop r s) y.stops))))))))

-- ---- sound: what is read as well-formed, the grammar admits with the same sender and the same tree

pub read_derives : (s : List ℕ) (xs : List Part) → message_r s ≡ well_formed xs → megaco_message s 1 (sender_of s) xs
read_derives s xs e = go (rw e at (meaning s))
  where
    go : Meaning s (well_formed xs) → megaco_message s 1 (sender_of s) xs
    go (admitted m) = m

-- ---- complete: what the grammar admits with version 1 is read as well-formed, with the same tree

message_reads : {s m : List ℕ} {v : ℕ} {xs : List Part} → megaco_message s v m xs
    → (b : List ℕ) × (x : Headed s v m b) × (transactions_r 8 s x.end ≡ well_formed xs)
message_reads (message {a} {b} h (at_most ys l)) =
    given (header_complete (a ++ b) b h (list_solid ys) refl) (λ x. (b, x, list_well_formed (a ++ b) 8 x.end ys l x.leaves))

headed : {s m b : List ℕ} {v : ℕ} (x : Headed s v m b) → message_r s ≡ pick (eqb v 1) (transactions_r 8 s x.end) fault406
unfolding message_r elsewhere numbered
headed x = rw (x.start, x.version, x.sender)

pub complete : (s m : List ℕ) (xs : List Part) → megaco_message s 1 m xs → message_r s ≡ well_formed xs
unfolding pick
complete s w xs m = given (message_reads m) (λ x. headed x.1 ∙ x.2)

-- the sender that is read is the mId that the grammar finds, whatever the version
pub sender_is : (s m : List ℕ) (v : ℕ) (xs : List Part) → megaco_message s v m xs → sender_of s ≡ m
sender_is s w v xs m = given (message_reads m) (λ x. x.1.from)

-- a message is well-formed exactly when the grammar admits it, with the sender that is read, and its version is 1
pub well_formed_lem : (s : List ℕ) (xs : List Part) → message_r s ≡ well_formed xs ↔ megaco_message s 1 (sender_of s) xs
well_formed_lem s xs = (read_derives s xs, complete s (sender_of s) xs)

-- ---- one meaning: no text has two trees, nor two versions, nor two senders

headed_once : {s m n a b : List ℕ} {v u : ℕ} (x : Headed s v m a) (y : Headed s u n b) → (v ≡ u) × (x.end ≡ y.end)
headed_once {s} {v = v} {u = u} x y =
    let b : x.begun ≡ y.begun = cc in
    let n : number v x.numbered ≡ number u y.numbered = sym x.version ∙ ap (λ p. number_at s p 2 99) b ∙ y.version in
    let q : x.numbered ≡ y.numbered = same_next n in
    (same_value n, (cc))

pub one_meaning : (s : List ℕ) (v u : ℕ) (m n : List ℕ) (xs ys : List Part) → megaco_message s v m xs → megaco_message s u n ys → (v ≡ u) × (m ≡ n) × (xs ≡ ys)
one_meaning s v u w t xs ys m n = given (message_reads m) (λ x. given (message_reads n) (λ y. given (headed_once x.1 y.1) (λ z.
    (z.0, sym x.1.from ∙ y.1.from, (cc)))))

-- ---- the faults

pub fault_406 : (s : List ℕ) → message_r s ≡ fault406 ↔ Fault406 s
unfolding pick
fault_406 s = (λ e. to (rw e at (meaning s)), from)
  where
    to : Meaning s fault406 → Fault406 s
    to (versioned f) = f

    from : {s : List ℕ} → Fault406 s → message_r s ≡ fault406
    from (other_version {a} {b} {v} h n w) =
        given (header_complete (a ++ b) b h (without_stops (goes_on false) (text " \t\r\n;") white_has solid_end w) refl)
        (λ x. headed x ∙ rw (ne_eqb v 1 n))

pub fault_403 : (s : List ℕ) (id : ℕ) → message_r s ≡ fault403 id ↔ Fault403 s id
unfolding pick
fault_403 s id = (λ e. to (rw e at (meaning s)), from)
  where
    to : Meaning s (fault403 id) → Fault403 s id
    to (in_transaction f) = f

    from : {s : List ℕ} → Fault403 s id → message_r s ≡ fault403 id
    from (bad_transaction {a} {b} {c} h w l x) = given (header_complete (a ++ b ++ c) (b ++ c) h (whole_solid w x) (append_assoc a b c)) (λ y.
        headed y ∙ whole_bad (a ++ b ++ c) 8 y.end w (omega arith) x y.leaves)

-- "Fault elsewhere"
pub fault_400 : (s : List ℕ)
    → message_r s ≡ fault400 ↔ ((m : List ℕ) (xs : List Part) → ¬ megaco_message s 1 m xs) × ((id : ℕ) → ¬ Fault403 s id) × (¬ Fault406 s)
fault_400 s = (to, λ h. from (message_r s) (meaning s) h)
  where
    to : message_r s ≡ fault400 → ((m : List ℕ) (xs : List Part) → ¬ megaco_message s 1 m xs) × ((id : ℕ) → ¬ Fault403 s id) × (¬ Fault406 s)
    to e = (
      (λ w xs m. let q = complete s w xs m in let z : ◌≡◌ {A = ℕ} 0 1 = cc in omega arith),
      (λ id f. let q = (fault_403 s id).1 f in let z : ◌≡◌ {A = ℕ} 0 1 = cc in omega arith),
      (λ f. let q = (fault_406 s).1 f in let z : ◌≡◌ {A = ℕ} 0 1 = cc in omega arith),
    )

    from : (m : Message) → Meaning s m → ((m : List ℕ) (xs : List Part) → ¬ megaco_message s 1 m xs) × ((id : ℕ) → ¬ Fault403 s id) × (¬ Fault406 s)
        → m ≡ fault400
    from m (admitted {xs} f) h = absurd (h.0 (sender_of s) xs f)
    from m (versioned f) h = absurd (h.2 f)
    from m (in_transaction {id} f) h = absurd (h.1 id f)
    from m elsewhere_fault h = refl

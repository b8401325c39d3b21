-- Transactions and the message by position. `MessageProduction m` stands beside a message that Reading (crate `megaco`) reads: the verdict, where a fault is
-- told (first pass), the transactions, told without failing (second pass), and the law that both together are m.
use Prim.Native.Nat.{ℕ, zero, suc, ◌+◌}
use Rattle.std.specs.Prelude.{◌≡◌, ⊤, Bool, List, [], ◌∷◌, length, ltb, eqb, Some, None, Ok, Err}
use Rattle.std.specs.declared.result.Result.{Result}
use Rattle.std.proofs.Math.Path.{refl}
use Rattle.std.proofs.Common.{sym, ap, ◌∙◌, arith}
use Rattle.std.proofs.Math.Bool.{true, false}
use Rattle.base.specs.Pick.{pick}
use Rattle.base.specs.Lists.{is_at}
use Rattle.megaco.specs.Bytes.{left_brace, right_brace}
use Rattle.megaco.specs.White.{after, white_at}
use Rattle.megaco.specs.Tokens.{mark_at, keyword_at, number_at}
use Rattle.megaco.specs.Keywords.{spells}
use Rattle.megaco.specs.Tree.{Action, Transaction, transaction, Part, request, acknowledge, Message, well_formed, fault400, fault403, fault406}
use Rattle.megaco.specs.Reading.{Read, reading, key_at, word_here, actions_r, elsewhere, numbered, inside, acknowledged, followed, end_or, braces_then, request_then, acks_then, transactions_r, start_at, sender_at, message_r}
use Rattle.protocol.specs.Types.{Parsed, Number, MegacopToken, TransToken, ResponseAckToken, Ack}
use Rattle.read_command.specs.Production.{end_of, value_in, next_in, number_after, past_white, found, Production}
use Rattle.read_command.specs.Places.{actions_at, braced_at, acknowledgement_at}
use Rattle.read_command.specs.declared.Fault.{Fault}
use Rattle.read_command.specs.declared.Fault.TheVariants.{Fault400, Fault403, WrongVersion406}

-- ---- places

-- the opening brace behind an identifier
unfoldable pub brace_at : List ℕ → ℕ → Parsed
brace_at s at = after (white_at s at) (mark_at left_brace s)

-- a message is well-formed, or this fault is told of it
abbrev pub Verdict : Type 0
Verdict = Result ⊤ Fault

-- a part, and what follows it; where the part does not stand there, this fault
unfoldable pub or_fault : {A : Type 0} → Fault → Parsed → (ℕ → Result A Fault) → Result A Fault
or_fault e (Some p) f = f p
or_fault e None f = Err e

unfoldable pub if_number : {A : Type 0} → Number → (ℕ → ℕ → Result A Fault) → Result A Fault
if_number (Some (v, p)) f = f v p
if_number None f = Err Fault400

-- the same of a part that tells its fault
unfoldable pub behind : Result ℕ Fault → (ℕ → Verdict) → Verdict
behind (Ok p) f = f p
behind (Err e) f = Err e

-- a transaction with this identifier, from behind it, and the white space after it.
-- "Fault between a transaction's opening and closing brace": 403. "Fault elsewhere": 400
unfoldable pub transaction_at : ℕ → List ℕ → ℕ → Result ℕ Fault
transaction_at id s at = or_fault Fault400 (brace_at s at) (λ p. or_fault (Fault403 id) (braced_at s p).place (λ q. or_fault Fault400 (white_at s q) Ok))

unfoldable pub identifier_at : List ℕ → ℕ → Number
identifier_at s at = number_after (key_at TransToken s at) (λ p. number_at s p 10 4294967295)

-- MEGACO or `!`
abbrev pub protocol_at : List ℕ → ℕ → Parsed
protocol_at s at = pick (is_at s at 0x21) (Some (at + 1)) (keyword_at MegacopToken s at)

unfoldable pub version_at : List ℕ → Number
version_at s = number_after (start_at s) (λ p. number_at s p 2 99)

unfoldable pub actions_start : List ℕ → ℕ → ℕ
actions_start s at = past_white s (end_of (brace_at s (next_in (identifier_at s at))))

unfoldable pub transaction_of : List ℕ → ℕ → Transaction
transaction_of s at = transaction (value_in (identifier_at s at)) (actions_at s (actions_start s at)).tree

-- behind the closing brace of a transaction whose actions end here
unfoldable pub closing_end : List ℕ → ℕ → ℕ
closing_end s at = past_white s (end_of (mark_at right_brace s at))

unfoldable pub transaction_end : List ℕ → ℕ → ℕ
transaction_end s at = closing_end s (actions_at s (actions_start s at)).end

-- whether an acknowledgement stands here, and no transaction; what it names, and its end
unfoldable pub is_acknowledgement : List ℕ → ℕ → Bool
is_acknowledgement s at = spells ResponseAckToken (word_here s at)

unfoldable pub acks_of : List ℕ → ℕ → List Ack
acks_of s at = (acknowledgement_at s at).tree

unfoldable pub acknowledgement_end : List ℕ → ℕ → ℕ
acknowledgement_end s at = (acknowledgement_at s at).end

-- one of the eight, and its end
unfoldable pub part_of : List ℕ → ℕ → Part
part_of s at = pick (is_acknowledgement s at) (acknowledge (acks_of s at)) (request (transaction_of s at))

unfoldable pub part_end : List ℕ → ℕ → ℕ
part_end s at = pick (is_acknowledgement s at) (acknowledgement_end s at) (transaction_end s at)

unfoldable pub request_at : List ℕ → ℕ → Result ℕ Fault
request_at s at = if_number (identifier_at s at) (λ id p. pick (eqb id 0) (Err (Fault403 0)) (transaction_at id s p))

unfoldable pub part_at : List ℕ → ℕ → Result ℕ Fault
part_at s at = pick (is_acknowledgement s at) (or_fault Fault400 (acknowledgement_at s at).place Ok) (request_at s at)

-- behind the header
unfoldable pub header_end : List ℕ → ℕ
header_end s = end_of (sender_at s (next_in (version_at s)))

-- ---- what is said of a message

-- document 01's answer for each case: 0 where the message is run, else the code that is told
unfoldable pub code_of : Verdict → ℕ
code_of (Ok tt) = 0
code_of (Err Fault400) = 400
code_of (Err (Fault403 id)) = 403
code_of (Err WrongVersion406) = 406

-- what the verdict and the tree told by position say together
unfoldable pub message_by : Verdict → List Part → Message
message_by (Ok tt) xs = well_formed xs
message_by (Err Fault400) xs = fault400
message_by (Err (Fault403 id)) xs = fault403 id
message_by (Err WrongVersion406) xs = fault406

pub record MessageProduction (m : Message) : Type 0 where
  pub verdict : Verdict
  pub tree : List Part
  pub law : m ≡ message_by verdict tree

module _ (xs : List Part) where
  pub elsewhere_law : (x : Parsed) (f : ℕ → Message) (g : ℕ → Verdict) → f (end_of x) ≡ message_by (g (end_of x)) xs → elsewhere x f ≡ message_by (or_fault Fault400 x g) xs
  unfolding elsewhere or_fault end_of message_by
  elsewhere_law (Some p) f g h = h
  elsewhere_law None f g h = refl

  numbered_law : (n : Number) (f : ℕ → ℕ → Message) (g : ℕ → ℕ → Verdict) → f (value_in n) (next_in n) ≡ message_by (g (value_in n) (next_in n)) xs → numbered n f ≡ message_by (if_number n g) xs
  unfolding numbered if_number value_in next_in message_by
  numbered_law (Some (v, p)) f g h = h
  numbered_law None f g h = refl

  -- the same behind another part
  behind_law : (x : Parsed) (n : ℕ → Number) (f : ℕ → ℕ → Message) (g : ℕ → ℕ → Verdict)
      → let m = number_after x n in f (value_in m) (next_in m) ≡ message_by (g (value_in m) (next_in m)) xs → elsewhere x (λ p. numbered (n p) f) ≡ message_by (if_number m g) xs
  unfolding elsewhere number_after
  behind_law (Some p) n f g h = numbered_law (n p) f g h
  behind_law None n f g h = unfold if_number message_by in refl

  -- around a transaction's braces and in them
  module _ (g : ℕ → Verdict) where
    around_law : (x : Parsed) (f : ℕ → Message) (h : ℕ → Result ℕ Fault) → f (end_of x) ≡ message_by (behind (h (end_of x)) g) xs → elsewhere x f ≡ message_by (behind (or_fault Fault400 x h) g) xs
    unfolding elsewhere or_fault end_of
    around_law (Some p) f h k = k
    around_law None f h k = unfold behind message_by in refl

    within_law : (id : ℕ) {r : Read (List Action)} (x : Production r) (f : List Action → ℕ → Message) (h : ℕ → Result ℕ Fault)
        → f x.tree x.end ≡ message_by (behind (h x.end) g) xs → inside id r f ≡ message_by (behind (or_fault (Fault403 id) x.place h) g) xs
    unfolding inside or_fault reading
    within_law id {r} x f h l = rw x.law.tree (by x.place x.law.ends)
      where
        by : (y : Parsed) → ((p : ℕ) → y ≡ Some p → x.end ≡ p) → inside id (found y x.tree) f ≡ message_by (behind (or_fault (Fault403 id) y h) g) xs
        by (Some p) n = rw (n p refl) at l
        by None n = unfold behind message_by in refl

  -- an acknowledgement
  acknowledged_law : {r : Read (List Ack)} (x : Production r) (f : List Ack → ℕ → Message) (g : ℕ → Verdict)
      → f x.tree x.end ≡ message_by (g x.end) xs → acknowledged r f ≡ message_by (or_fault Fault400 x.place g) xs
  unfolding acknowledged or_fault reading
  acknowledged_law {r} x f g l = rw x.law.tree (by x.place x.law.ends)
    where
      by : (y : Parsed) → ((p : ℕ) → y ≡ Some p → x.end ≡ p) → acknowledged (found y x.tree) f ≡ message_by (or_fault Fault400 y g) xs
      by (Some p) n = rw (n p refl) at l
      by None n = unfold message_by in refl

  pick_law : (t : Bool) {m n : Message} (v w : Verdict) → m ≡ message_by v xs → n ≡ message_by w xs → pick t m n ≡ message_by (pick t v w) xs
  unfolding pick
  pick_law true v w h k = h
  pick_law false v w h k = k

  followed_law : (x : Part) (v : Verdict) → followed x (message_by v xs) ≡ message_by v (x ∷ xs)
  unfolding followed message_by
  followed_law x (Ok tt) = refl
  followed_law x (Err Fault400) = refl
  followed_law x (Err (Fault403 id)) = refl
  followed_law x (Err WrongVersion406) = refl

  last_law : (t : Bool) (x : Part) {m : Message} (v : Verdict) → m ≡ message_by v xs → pick t (followed x m) (well_formed (x ∷ [])) ≡ message_by (pick t v (Ok tt)) (x ∷ pick t xs [])
  unfolding pick message_by
  last_law true x {m} v h = rw h (followed_law x v)
  last_law false x v h = refl

-- ---- the combinators

-- a part outside a transaction's braces
abbrev pub elsewhere_t : (x : Parsed) {f : ℕ → Message} → ((p : ℕ) → MessageProduction (f p)) → MessageProduction (elsewhere x f)
elsewhere_t x {f} k =
    record { verdict = or_fault Fault400 x (λ p. (k p).verdict); tree = (k (end_of x)).tree; law = elsewhere_law (k (end_of x)).tree x f (λ p. (k p).verdict) (k (end_of x)).law }

-- a number m behind a part
pub number_law : (m : Number) (x : Parsed) (n : ℕ → Number) {f : ℕ → ℕ → Message} (k : (v p : ℕ) → MessageProduction (f v p)) → m ≡ number_after x n
    → elsewhere x (λ p. numbered (n p) f) ≡ message_by (if_number m (λ v p. (k v p).verdict)) (k (value_in m) (next_in m)).tree
number_law m x n {f} k e = rw e (behind_law _ x n f (λ v p. (k v p).verdict) (k (value_in (number_after x n)) (next_in (number_after x n))).law)

abbrev pub number_t : (m : Number) (x : Parsed) (n : ℕ → Number) {f : ℕ → ℕ → Message} → m ≡ number_after x n → ((v p : ℕ) → MessageProduction (f v p)) → MessageProduction (elsewhere x (λ p. numbered (n p) f))
number_t m x n e k = record { verdict = if_number m (λ v p. (k v p).verdict); tree = (k (value_in m) (next_in m)).tree; law = number_law m x n k e }

pub zero_law : (t : Bool) {m : Message} (x : MessageProduction m) → pick t (fault403 0) m ≡ message_by (pick t (Err (Fault403 0)) x.verdict) x.tree
unfolding message_by
zero_law t x = pick_law x.tree t (Err (Fault403 0)) x.verdict refl x.law

abbrev pub unless_t : (t : Bool) {m : Message} → MessageProduction m → MessageProduction (pick t (fault403 0) m)
unless_t t x = record { verdict = pick t (Err (Fault403 0)) x.verdict; tree = x.tree; law = zero_law t x }

pub version_law : (t : Bool) {m : Message} (x : MessageProduction m) → pick t m fault406 ≡ message_by (pick t x.verdict (Err WrongVersion406)) x.tree
unfolding message_by
version_law t x = pick_law x.tree t x.verdict (Err WrongVersion406) x.law refl

abbrev pub only_t : (t : Bool) {m : Message} → MessageProduction m → MessageProduction (pick t m fault406)
only_t t x = record { verdict = pick t x.verdict (Err WrongVersion406); tree = x.tree; law = version_law t x }

module _ (id : ℕ) (s : List ℕ) (at : ℕ) {f : List Action → ℕ → Message} (k : (acts : List Action) (e : ℕ) → MessageProduction (f acts e)) where
  abbrev start : ℕ
  start = past_white s (end_of (brace_at s at))

  abbrev acts : List Action
  acts = (actions_at s start).tree

  abbrev end : ℕ
  end = closing_end s (actions_at s start).end

  pub braces_law : elsewhere (after (white_at s at) (mark_at left_brace s)) (λ p. inside id (actions_r s p) (λ l q. elsewhere (white_at s q) (f l)))
      ≡ message_by (behind (transaction_at id s at) (λ e. (k acts e).verdict)) (k acts end).tree
  unfolding brace_at braced_at transaction_at closing_end past_white behind
  braces_law =
      let g : ℕ → Verdict = λ e. (k acts e).verdict in
      let b : ℕ = end_of (brace_at s at) in
      around_law _ g (brace_at s at) _ _ (within_law _ g id (braced_at s b) _ _ (around_law _ g (white_at s (braced_at s b).end) _ _ (k acts end).law))

  -- a transaction's braces, from behind its identifier
  abbrev pub braces_t : MessageProduction (elsewhere (after (white_at s at) (mark_at left_brace s)) (λ p. inside id (actions_r s p) (λ l q. elsewhere (white_at s q) (f l))))
  braces_t = record { verdict = behind (transaction_at id s at) (λ e. (k acts e).verdict); tree = (k acts end).tree; law = braces_law }

pub end_law : {r : ℕ → Message} (rest : (e : ℕ) → MessageProduction (r e)) (x : Part) (s : List ℕ) (at : ℕ)
    → end_or r x s at ≡ message_by (pick (ltb at (length s)) (rest at).verdict (Ok tt)) (x ∷ pick (ltb at (length s)) (rest at).tree [])
unfolding end_or
end_law rest x s at = last_law (rest at).tree (ltb at (length s)) x (rest at).verdict (rest at).law

-- an acknowledgement
pub acks_law : {r : Read (List Ack)} (x : Production r) {f : List Ack → ℕ → Message} (k : (ks : List Ack) (e : ℕ) → MessageProduction (f ks e))
    → acknowledged r f ≡ message_by (or_fault Fault400 x.place (λ e. (k x.tree e).verdict)) (k x.tree x.end).tree
acks_law x {f} k = acknowledged_law (k x.tree x.end).tree x f (λ e. (k x.tree e).verdict) (k x.tree x.end).law

abbrev pub acknowledged_t : {r : Read (List Ack)} (x : Production r) {f : List Ack → ℕ → Message} → ((ks : List Ack) (e : ℕ) → MessageProduction (f ks e)) → MessageProduction (acknowledged r f)
acknowledged_t x k = record { verdict = or_fault Fault400 x.place (λ e. (k x.tree e).verdict); tree = (k x.tree x.end).tree; law = acks_law x k }

-- the end of the message, or what follows a transaction
abbrev pub end_t : {r : ℕ → Message} (rest : (e : ℕ) → MessageProduction (r e)) (x : Part) (s : List ℕ) (at : ℕ) → MessageProduction (end_or r x s at)
end_t rest x s at =
    record { verdict = pick (ltb at (length s)) (rest at).verdict (Ok tt); tree = x ∷ pick (ltb at (length s)) (rest at).tree []; law = end_law rest x s at }

pub none_law : fault400 ≡ message_by (Err Fault400) []
unfolding message_by
none_law = refl

-- ---- transactions and the message

pub identifier_is : (s : List ℕ) (at : ℕ) → identifier_at s at ≡ number_after (key_at TransToken s at) (λ p. number_at s p 10 4294967295)
unfolding identifier_at
identifier_is s at = refl

pub version_is : (s : List ℕ) → version_at s ≡ number_after (start_at s) (λ p. number_at s p 2 99)
unfolding version_at
version_is s = refl

-- a transaction, and what may follow it
unfoldable pub request_t : {r : ℕ → Message} (rest : (e : ℕ) → MessageProduction (r e)) (s : List ℕ) (at : ℕ) → MessageProduction (request_then r s at)
unfolding request_then braces_then
request_t rest s at =
    number_t (identifier_at s at) (key_at TransToken s at) (λ p. number_at s p 10 4294967295) (identifier_is s at) (λ id q.
    unless_t (eqb id 0) (braces_t id s q (λ acts e. end_t rest (request (transaction id acts)) s e)))

-- an acknowledgement, and what may follow it
unfoldable pub acks_t : {r : ℕ → Message} (rest : (e : ℕ) → MessageProduction (r e)) (s : List ℕ) (at : ℕ) → MessageProduction (acks_then r s at)
unfolding acks_then
acks_t rest s at = acknowledged_t (acknowledgement_at s at) (λ ks e. end_t rest (acknowledge ks) s e)

pub part_law : (t : Bool) {m n : Message} (v w : Verdict) (x y : Part) (d e : ℕ) (l : ℕ → List Part) → m ≡ message_by v (x ∷ l d) → n ≡ message_by w (y ∷ l e)
    → pick t m n ≡ message_by (pick t v w) (pick t x y ∷ l (pick t d e))
unfolding pick
part_law true v w x y d e l h k = h
part_law false v w x y d e l h k = k

pub parts_law : {r : ℕ → Message} (rest : (e : ℕ) → MessageProduction (r e)) (s : List ℕ) (at : ℕ)
    → pick (is_acknowledgement s at) (acks_then r s at) (request_then r s at)
    ≡ message_by (pick (is_acknowledgement s at) (acks_t rest s at).verdict (request_t rest s at).verdict) (part_of s at ∷ pick (ltb (part_end s at) (length s)) (rest (part_end s at)).tree [])
unfolding acks_t request_t part_of part_end acks_of acknowledgement_end transaction_of transaction_end actions_start
parts_law rest s at =
    part_law (is_acknowledgement s at) (acks_t rest s at).verdict (request_t rest s at).verdict (acknowledge (acks_of s at)) (request (transaction_of s at))
    (acknowledgement_end s at) (transaction_end s at) (λ e. pick (ltb e (length s)) (rest e).tree []) (acks_t rest s at).law (request_t rest s at).law

-- one of the eight, and what may follow it
abbrev pub part_t : {r : ℕ → Message} (rest : (e : ℕ) → MessageProduction (r e)) (s : List ℕ) (at : ℕ)
    → MessageProduction (pick (is_acknowledgement s at) (acks_then r s at) (request_then r s at))
part_t rest s at =
    record {
      verdict = pick (is_acknowledgement s at) (acks_t rest s at).verdict (request_t rest s at).verdict;
      tree = part_of s at ∷ pick (ltb (part_end s at) (length s)) (rest (part_end s at)).tree [];
      law = parts_law rest s at;
    }

-- at most k of them, to the end of the message
unfoldable pub transactions_at : (k : ℕ) (s : List ℕ) (at : ℕ) → MessageProduction (transactions_r k s at)
unfolding transactions_r is_acknowledgement
transactions_at zero s at = record { verdict = Err Fault400; tree = []; law = none_law }
transactions_at (suc k) s at = part_t (transactions_at k s) s at

unfoldable pub message_at : (s : List ℕ) → MessageProduction (message_r s)
unfolding message_r header_end
message_at s =
    number_t (version_at s) (start_at s) (λ p. number_at s p 2 99) (version_is s) (λ v q.
    elsewhere_t (sender_at s q) (λ r.
    only_t (eqb v 1) (transactions_at 8 s r)))

abbrev pub verdict : List ℕ → Verdict
verdict s = (message_at s).verdict

abbrev pub message_of : List ℕ → List Part
message_of s = (message_at s).tree

-- "The whole message is read before anything runs": a message means what its verdict tells and, where it is well-formed, its tree told by position
pub message_law : (s : List ℕ) → message_r s ≡ message_by (verdict s) (message_of s)
message_law s = (message_at s).law

coded : (v : Verdict) (xs : List Part) → code_of v ≡ 0 → message_by v xs ≡ well_formed xs
unfolding code_of message_by
coded (Ok tt) xs e = refl
coded (Err Fault400) xs e = absurd (omega (arith, e))
coded (Err (Fault403 id)) xs e = absurd (omega (arith, e))
coded (Err WrongVersion406) xs e = absurd (omega (arith, e))

-- the verdict on what is read
unfoldable pub verdict_of : Message → Verdict
verdict_of (well_formed xs) = Ok tt
verdict_of fault400 = Err Fault400
verdict_of (fault403 id) = Err (Fault403 id)
verdict_of fault406 = Err WrongVersion406

verdict_back : (v : Verdict) (xs : List Part) → v ≡ verdict_of (message_by v xs)
unfolding verdict_of message_by
verdict_back (Ok tt) xs = refl
verdict_back (Err Fault400) xs = refl
verdict_back (Err (Fault403 id)) xs = refl
verdict_back (Err WrongVersion406) xs = refl

-- the verdict told by position is that on the message that Reading reads
pub verdict_is : (s : List ℕ) → verdict s ≡ verdict_of (message_r s)
verdict_is s = verdict_back (verdict s) (message_of s) ∙ ap verdict_of (sym (message_law s))

-- where the code is 0, the message is the tree that is run
pub run_at_0 : (s : List ℕ) → code_of (verdict s) ≡ 0 → message_r s ≡ well_formed (message_of s)
run_at_0 s e = message_law s ∙ coded (verdict s) (message_of s) e

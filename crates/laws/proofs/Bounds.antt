-- What holds of every call: how long a reply can be, and what is left as it was.
use Rattle.std.specs.Prelude.{Some, None}
use Prim.Native.Nat.{ℕ, zero, suc, ◌+◌, ◌*◌, ◌-◌, ◌≤◌, ◌<◌}
use mathlib.Core.Path.{◌≡◌, refl, subst}
use mathlib.Core.Logic.{◌≢◌}
use mathlib.Core.Bool.{true, ◌&&◌, and-eq-true_iff, false}
use mathlib.Core.List.{List, [], ◌∷◌}
use lib.ListN.{length, take, drop}
use lib.Dec.{ltb, leb, eqb}
use borrow.Author.Tests.{ltb-false, leb-true, eqb-true, eqb-false, not-false}
use native.Mathlib.Omega.{arith}
use Rattle.base.specs.Pick.{pick}
use Rattle.base.specs.Bytes.{put, ◌then◌}
use Rattle.base.proofs.PickLaws.{pick_ind}
use Rattle.base.proofs.TestLaws.{or_neither}
use Rattle.base.proofs.TextLaws.{length_then, length_decimal}
use Rattle.base.proofs.OutLaws.{length_put, take_front, take_put, drop_put}
use Rattle.protocol.specs.Types.{Parsed, Number, Ack}
use Rattle.megaco.specs.Tokens.{number_at, number_from, number_end, is_mid}
use Rattle.megaco.specs.Tree.{Action, Transaction, transaction, Part, request, acknowledge, Message, well_formed, fault400, fault403, fault406}
use Rattle.megaco.specs.Reading.{Read, got, fault, acks_r, elsewhere, numbered, inside, acknowledged, followed, end_or, braces_then, request_then, acks_then, transactions_r, message_r, sender_of}
use Rattle.megaco.specs.Reply.{Acted, error_text, reply_text, limited, transaction_text, header_text}
use Rattle.megaco.specs.State.{State}
use Rattle.megaco.specs.Transaction.{course, fresh, run, steps, run_transaction}
use Rattle.megaco.specs.Room.{Room, kept_of, room_sound}
use Rattle.megaco.specs.Message.{run_part, run_parts, run_message}
use Rattle.megaco.specs.Table.{most_lines, words, sound}
use Rattle.megaco.specs.Blocks.{blocks_are_sound}
use Rattle.megaco.specs.Names.{within}
use Rattle.megaco.specs.Call.{Called, turned_down, state_fits, written, replied, taken, call}
use Rattle.laws.specs.Bounds.{largest, Few, few_none, FewIn, reply_to, Kept, Bounded, Taken, few_request, few_ack, served_by}
use Rattle.laws.specs.KeptReplies.{noted_of, parts_by, message_by}
use Rattle.laws.proofs.Senders.{sender_short}
use Rattle.laws.proofs.KeptRuns.{Fits, AllFit, FitIn, Follows, part_follows, parts_follow, message_follows, part_short, parts_twice}

-- ---- what is read: at most 8 transactions, each with an identifier of 32 bits

-- a number that was read is within its limit
abbrev pub Within : ℕ → Number → Type 0
Within limit (Some (v, p)) = v ≤ limit
Within limit None = Unit {0}

number_end_lem : (at n v limit : ℕ) → v ≤ limit → Within limit (number_end at n v)
unfolding number_end
number_end_lem at n v limit h = pick_ind (Within limit) _ _ _ (λ e. h) (λ e. tt)

number_from_lem : (at most limit : ℕ) (s : List ℕ) (n v : ℕ) → v ≤ limit → Within limit (number_from at most limit s n v)
unfolding number_from
number_from_lem at most limit [] n v h = number_end_lem at n v limit h
number_from_lem at most limit (b ∷ t) n v h =
    pick_ind (Within limit) _ _ _
    (λ d. pick_ind (Within limit) _ _ _ (λ e. tt)
    (λ f. pick_ind (Within limit) _ _ _ (λ e. tt) (λ e. number_from_lem at most limit t (n + 1) (v * 10 + (b - 48)) (ltb-false _ _ e))))
    (λ d. number_end_lem at n v limit h)

pub number_within : (s : List ℕ) (at most limit : ℕ) → Within limit (number_at s at most limit)
unfolding number_at
number_within s at most limit = number_from_lem at most limit (drop at s) at 0 (omega arith)

few_elsewhere : (k : ℕ) (r : Parsed) (f : ℕ → Message) → ((p : ℕ) → FewIn k (f p)) → FewIn k (elsewhere r f)
unfolding elsewhere
few_elsewhere k (Some p) f h = h p
few_elsewhere k None f h = tt

few_numbered : (k limit : ℕ) (r : Number) (f : ℕ → ℕ → Message) → Within limit r → ((v p : ℕ) → v ≤ limit → FewIn k (f v p)) → FewIn k (numbered r f)
unfolding numbered
few_numbered k limit (Some (v, p)) f w h = h v p w
few_numbered k limit None f w h = tt

few_inside : (k id : ℕ) (r : Read (List Action)) (f : List Action → ℕ → Message) → id ≤ largest → ((acts : List Action) (p : ℕ) → FewIn k (f acts p)) → FewIn k (inside id r f)
unfolding inside
few_inside k id (got acts p) f l h = h acts p
few_inside k id fault f l h = l

few_acknowledged : (k : ℕ) (r : Read (List Ack)) (f : List Ack → ℕ → Message) → ((ks : List Ack) (p : ℕ) → FewIn k (f ks p)) → FewIn k (acknowledged r f)
unfolding acknowledged
few_acknowledged k (got ks p) f h = h ks p
few_acknowledged k fault f h = tt

-- a part that may stand before a message of k parts
abbrev Adds : Part → Type 0
Adds p = (k : ℕ) (xs : List Part) → Few k xs → Few (suc k) (p ∷ xs)

few_followed : (k : ℕ) (x : Part) (m : Message) → Adds x → FewIn k m → FewIn (suc k) (followed x m)
unfolding followed
few_followed k x (well_formed xs) a h = a k xs h
few_followed k x fault400 a h = tt
few_followed k x (fault403 i) a h = h
few_followed k x fault406 a h = tt

few_end : (k : ℕ) (rest : ℕ → Message) (x : Part) (s : List ℕ) (e : ℕ) → Adds x → ((p : ℕ) → FewIn k (rest p)) → FewIn (suc k) (end_or rest x s e)
unfolding end_or
few_end k rest x s e a h = pick_ind (FewIn (suc k)) _ _ _ (λ t. few_followed k x (rest e) a (h e)) (λ t. a k [] few_none)

few_braces : (k : ℕ) (rest : ℕ → Message) (id : ℕ) (s : List ℕ) (at : ℕ) → id ≤ largest → ((p : ℕ) → FewIn k (rest p)) → FewIn (suc k) (braces_then rest id s at)
unfolding braces_then
few_braces k rest id s at l h =
    few_elsewhere (suc k) _ _ λ p.
    few_inside (suc k) id _ _ l λ acts q.
    few_elsewhere (suc k) _ _ λ e. few_end k rest (request (transaction id acts)) s e (λ j xs f. few_request l f) h

few_transactions : (k : ℕ) (s : List ℕ) (at : ℕ) → FewIn k (transactions_r k s at)
unfolding transactions_r request_then acks_then
few_transactions zero s at = tt
few_transactions (suc k) s at =
    pick_ind (FewIn (suc k)) _ _ _
    (λ a. few_acknowledged (suc k) (acks_r s at) _ λ ks e. few_end k (transactions_r k s) (acknowledge ks) s e (λ j xs f. few_ack f) (few_transactions k s))
    (λ a. few_elsewhere (suc k) _ _ λ p.
    few_numbered (suc k) largest _ _ (number_within s p 10 largest) λ id q l.
    pick_ind (FewIn (suc k)) _ _ _ (λ t. omega arith) (λ t. few_braces k (transactions_r k s) id s q l (few_transactions k s)))

pub few_read : (m : List ℕ) → FewIn 8 (message_r m)
unfolding message_r
few_read m =
    few_elsewhere 8 _ _ λ p.
    few_numbered 8 99 _ _ (number_within m p 2 99) λ v q l.
    few_elsewhere 8 _ _ λ r.
    pick_ind (FewIn 8) _ _ _ (λ t. few_transactions 8 m r) (λ t. tt)

-- ---- the reply's length

error_length : (code : ℕ) → code ≤ largest → length (error_text code) ≤ 15
unfolding error_text
error_length code h = simp length_then (omega (arith, length_decimal code h))

fault_length : (id code : ℕ) → id ≤ largest → code ≤ largest → length (reply_text id (error_text code)) ≤ 29
unfolding reply_text
fault_length id code h l = simp length_then (omega (arith, length_decimal id h, error_length code l))

limited_length : (id : ℕ) (x : List ℕ) → id ≤ largest → length (limited id x) ≤ 2048
unfolding limited
limited_length id x h =
    pick_ind (λ y. length y ≤ 2048) (ltb 2048 (length x)) (reply_text id (error_text 533)) x
    (λ t. omega (arith, fault_length id 533 h (omega arith)))
    (λ t. ltb-false _ _ t)

-- "If `P=id{..}` would pass 2,048 bytes it becomes `P=id{ER=533{}}`": so no transaction's text is longer
pub transaction_fits : (id : ℕ) (acts : List Acted) → id ≤ largest → length (transaction_text id acts) ≤ 2048
unfolding transaction_text
transaction_fits id acts h = limited_length id _ h

request_fits : (id : ℕ) (acts : List Action) → id ≤ largest → Fits (request (transaction id acts))
unfolding run_transaction
request_fits id acts l st = transaction_fits id (run (steps acts) (course st fresh)).progress.acts l

all_fit : (k : ℕ) (ps : List Part) → Few k ps → AllFit ps
all_fit k [] few_none = tt
all_fit (suc k) (request (transaction id acts) ∷ ps) (few_request l f) = (request_fits id acts l, all_fit k ps f)
all_fit (suc k) (acknowledge ks ∷ ps) (few_ack f) = (tt, all_fit k ps f)
all_fit zero (_ ∷ ps) x3 = elim x3 [ ]

fit_in : (x : Message) → FewIn 8 x → FitIn x
fit_in (well_formed ps) h = all_fit 8 ps h
fit_in fault400 h = tt
fit_in (fault403 id) h = tt
fit_in fault406 h = tt

-- what a message leaves of a sound room is sound, and is told by the list of kept replies
pub served_follows : (m : List ℕ) (st : State) (r : Room) → room_sound r ≡ true → Follows (served_by m st r) (message_by (sender_of m) (message_r m) st (kept_of r))
served_follows m st r s = message_follows (sender_of m) (sender_short m) (message_r m) st r (fit_in (message_r m) (few_read m)) s

-- and so is what a list of parts leaves
pub parts_by_the_list : (m : List ℕ) → length m ≤ 72 → (k : ℕ) (ps : List Part) → Few k ps → (st : State) (r : Room) → room_sound r ≡ true
    → noted_of (run_parts m ps st r) ≡ parts_by m ps st (kept_of r)
parts_by_the_list m h k ps f st r s = (parts_follow m h ps st r (all_fit k ps f) s).noted_is

-- a message of one transaction, sent again
pub repeated : (m : List ℕ) (x : Transaction) → message_r m ≡ well_formed (request x ∷ []) → (st : State) (r : Room) → room_sound r ≡ true
    → let y = run_message (sender_of m) (message_r m) st r in run_message (sender_of m) (message_r m) y.state y.room ≡ y
unfolding run_message
repeated m x e st r s =
    let f : FitIn (well_formed (request x ∷ [])) = fit_in (well_formed (request x ∷ [])) (subst (FewIn 8) e (few_read m)) in
    rw e (parts_twice (sender_of m) (sender_short m) x f.0 st r s)

few_rest : (k : ℕ) (p : Part) (ps : List Part) → Few (suc k) (p ∷ ps) → Few k ps
few_rest k (request (transaction id acts)) ps (few_request l f) = f
few_rest k (acknowledge ks) ps (few_ack f) = f

parts_fit : (m : List ℕ) → length m ≤ 72 → (k : ℕ) (ps : List Part) (st : State) (r : Room) → Few k ps → AllFit ps → room_sound r ≡ true → length (run_parts m ps st r).text ≤ k * 2048
unfolding run_parts
parts_fit m h k [] st r f a s = omega arith
parts_fit m h (suc k) (p ∷ ps) st r f a s =
    let y = run_part m p st r in
    simp length_then (omega (arith, part_short m p st r a.0 s, parts_fit m h k ps y.state y.room (few_rest k p ps f) a.1 (part_follows m h p st r a.0 s).sound))
parts_fit m h zero (p ∷ ps) st r f a s = elim f [ ]

message_fits : (m : List ℕ) → length m ≤ 72 → (x : Message) (st : State) (r : Room) → FewIn 8 x → room_sound r ≡ true → length (run_message m x st r).text ≤ 16384
unfolding run_message
message_fits m l (well_formed xs) st r h s = parts_fit m l 8 xs st r h (all_fit 8 xs h) s
message_fits m l fault400 st r h s = omega (arith, error_length 400 (omega arith))
message_fits m l (fault403 id) st r h s = omega (arith, fault_length id 403 h (omega arith))
message_fits m l fault406 st r h s = omega (arith, error_length 406 (omega arith))

-- "reply buffer under 16,640 bytes" is turned down: every reply fits into one of that size
pub text_fits : (m : List ℕ) (st : State) (r : Room) (own : List ℕ) → room_sound r ≡ true → length own ≤ 64 → length (header_text own then (served_by m st r).text) ≤ 16640
unfolding header_text
text_fits m st r own s h = simp length_then (omega (arith, message_fits (sender_of m) (sender_short m) (message_r m) st r (few_read m) s))

pub reply_fits : (m : List ℕ) (st : State) (r : Room) (own : List ℕ) → room_sound r ≡ true → length own ≤ 64 → length (reply_to m st r own) ≤ 16640
reply_fits m st r own s h = pick_ind (λ y. length y ≤ 16640) (served_by m st r).told (header_text own then (served_by m st r).text) [] (λ t. text_fits m st r own s h) (λ t. omega arith)

-- ---- every call is turned down or taken

own_fits : (own : List ℕ) → is_mid own ≡ true → length own ≤ 64
unfolding is_mid
own_fits own e = leb-true _ _ ((and-eq-true_iff (leb (length own) 64) _).0 e).0

-- what holds of each way to turn a call down, and of a call that is taken, holds of every call
pub call_ind : (P : Called → Type 0) (n : ℕ) (m : List ℕ) (st : State) (r : Room) (own o : List ℕ) → ((k : ℕ) → 0 < k → P (turned_down k st r o))
    → (within n most_lines ≡ true → 16640 ≤ length o → length st.table ≡ words n → sound st.table ≡ true → blocks_are_sound st.blocks ≡ true → room_sound r ≡ true → is_mid own ≡ true → 0 < length m → length m ≤ 4096 → P (taken m st r own o))
    → P (call n m st r own o)
unfolding call state_fits
call_ind P n m st r own o down up =
    pick_ind P _ _ _ (λ e. down 8 (omega arith)) λ w.
    pick_ind P _ _ _ (λ e. down 3 (omega arith)) λ a.
    pick_ind P _ _ _ (λ e. down 2 (omega arith)) λ b.
    pick_ind P _ _ _ (λ e. down 5 (omega arith)) λ f.
    pick_ind P _ _ _ (λ e. down 4 (omega arith)) λ c.
    pick_ind P _ _ _ (λ e. down 1 (omega arith)) λ d.
    let z = or_neither (eqb (length m) 0) (ltb 4096 (length m)) d in
    let x = (and-eq-true_iff (eqb (length st.table) (words n) && sound st.table) (blocks_are_sound st.blocks)).0 (not-false _ b) in
    let y = (and-eq-true_iff (eqb (length st.table) (words n)) (sound st.table)).0 x.0 in
    up (not-false _ w) (ltb-false _ _ a) (eqb-true (length st.table) (words n) y.0) y.1 x.1 (not-false _ f) (not-false _ c) (omega (arith, eqb-false (length m) 0 z.0)) (ltb-false _ _ z.1)

pub refusal_keeps : (n : ℕ) (m : List ℕ) (st : State) (r : Room) (own o : List ℕ) → (call n m st r own o).refusal ≢ 0 → Kept st r o (call n m st r own o)
unfolding taken replied written
refusal_keeps n m st r own o =
    call_ind (λ x. x.refusal ≢ 0 → Kept st r o x) n m st r own o
    (λ k p h. record { size = refl; state = refl; room = refl; reply = refl })
    (λ w a l b y s c d e h. absurd (h refl))

pub call_bounded : (n : ℕ) (m : List ℕ) (st : State) (r : Room) (own o : List ℕ) → Bounded o (call n m st r own o)
unfolding taken replied written
call_bounded n m st r own o =
    call_ind (Bounded o) n m st r own o
    (λ k p. record { long = refl; past = refl; fits = omega arith })
    (λ w a l b y s c d e.
    record {
      long = length_put o 0 (reply_to m st r own);
      past = drop_put o 0 (reply_to m st r own) (length (reply_to m st r own)) (omega arith);
      fits = reply_fits m st r own s (own_fits own c);
    })

put_none : (o : List ℕ) → put o 0 [] ≡ o
unfolding put
put_none [] = refl
put_none (y ∷ o) = refl

header_first : (m : List ℕ) (st : State) (r : Room) (own o : List ℕ) → room_sound r ≡ true → is_mid own ≡ true → 16640 ≤ length o → (served_by m st r).told ≡ true
    → take (length (header_text own)) (put o 0 (reply_to m st r own)) ≡ header_text own
unfolding pick
header_first m st r own o s c a t =
    rw t (take_front o (header_text own) (served_by m st r).text (omega (arith, text_fits m st r own s (own_fits own c), length_then (header_text own) (served_by m st r).text)))

says_nothing : (m : List ℕ) (st : State) (r : Room) (own o : List ℕ) → (served_by m st r).told ≡ false → (length (reply_to m st r own) ≡ 0) × (put o 0 (reply_to m st r own) ≡ o)
unfolding pick
says_nothing m st r own o t = rw t (refl, put_none o)

pub call_taken : (n : ℕ) (m : List ℕ) (st : State) (r : Room) (own o : List ℕ) → (call n m st r own o).refusal ≡ 0 → Taken m st r own o (call n m st r own o)
unfolding taken replied written
call_taken n m st r own o =
    call_ind (λ x. x.refusal ≡ 0 → Taken m st r own o x) n m st r own o
    (λ k p h. absurd (omega arith))
    (λ w a l b y s c d e h.
    let f : length (reply_to m st r own) ≤ length o = omega (arith, reply_fits m st r own s (own_fits own c)) in
    record {
      state = refl;
      room = refl;
      size = refl;
      whole = take_put o (reply_to m st r own) f;
      header = header_first m st r own o s c a;
      silent = says_nothing m st r own o;
    })

-- "On a fault nothing runs"
fault_runs_nothing : (m : List ℕ) (x : Message) (st : State) (r : Room) → ((xs : List Part) → x ≢ well_formed xs) → ((run_message m x st r).state ≡ st) × ((run_message m x st r).room ≡ r)
unfolding run_message
fault_runs_nothing m (well_formed xs) st r h = absurd (h xs refl)
fault_runs_nothing m fault400 st r h = (refl, refl)
fault_runs_nothing m (fault403 id) st r h = (refl, refl)
fault_runs_nothing m fault406 st r h = (refl, refl)

pub fault_keeps : (n : ℕ) (m : List ℕ) (st : State) (r : Room) (own o : List ℕ) → ((xs : List Part) → message_r m ≢ well_formed xs) → ((call n m st r own o).state ≡ st) × ((call n m st r own o).room ≡ r)
unfolding taken replied written
fault_keeps n m st r own o h =
    call_ind (λ x. (x.state ≡ st) × (x.room ≡ r)) n m st r own o (λ k p. (refl, refl)) (λ w a l b y s c d e. fault_runs_nothing (sender_of m) (message_r m) st r h)

-- a sound room stays sound
pub room_keeps : (n : ℕ) (m : List ℕ) (st : State) (r : Room) (own o : List ℕ) → room_sound r ≡ true → room_sound (call n m st r own o).room ≡ true
unfolding taken replied written
room_keeps n m st r own o s =
    call_ind (λ x. room_sound x.room ≡ true) n m st r own o (λ k p. s) (λ w a l b y z c d e. (served_follows m st r s).sound)

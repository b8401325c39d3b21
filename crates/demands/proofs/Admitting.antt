-- Demand 2: a message that is not turned down is run exactly when the grammar admits it, and each fault is answered exactly where the grammar calls for it.
use Prim.Native.Nat.{ℕ, ◌≤◌}
use mathlib.Core.Path.{◌≡◌, refl, sym, ap, subst, ◌∙◌}
use mathlib.Core.Logic.{◌↔◌, ◌⊎◌, inl, inr}
use mathlib.Core.List.{List, [], ◌∷◌, ◌++◌}
use mathlib.Core.Bool.{Bool, true, false}
use lib.ListN.{length, take, drop, get_or}
use native.Mathlib.Omega.{arith}
use Rattle.base.specs.Bytes.{put, ◌then◌}
use Rattle.base.specs.Pick.{pick}
use Rattle.megaco.specs.Tree.{Part, Message, well_formed, fault400, fault403, fault406}
use Rattle.megaco.specs.Reading.{message_r, sender_of}
use Rattle.megaco.specs.State.{State}
use Rattle.megaco.specs.Room.{Room, kept_of}
use Rattle.megaco.specs.Reply.{header_text, error_text, reply_text}
use Rattle.megaco.specs.Message.{Served, served, run_parts, run_message}
use Rattle.megaco.specs.Call.{Called, written, replied, taken, call}
use Rattle.grammar.specs.Grammar.{megaco_message}
use Rattle.grammar.specs.Faults.{Fault403, Fault406}
use Rattle.grammar.proofs.Theorems.{read_derives, complete, sender_is, one_meaning, fault_400, fault_403, fault_406}
use Rattle.laws.specs.Bounds.{Few, FewIn, served_by}
use Rattle.laws.specs.KeptReplies.{Noted, noted_of, parts_by, message_by}
use Rattle.laws.proofs.Senders.{sender_short}
use Rattle.laws.proofs.KeptRuns.{parts_follow}
use Rattle.laws.proofs.Bounds.{few_read, reply_fits, served_follows}
use Rattle.gateway.specs.Answers.{CallOutcome, refusal_number, refusal_of, size_of}
use Rattle.std.specs.Prelude.{Ok, Err}
use Rattle.gateway.specs.declared.Refusal.TheVariants.{ReplyTooShort, TableUnsound, RoomUnsound, MidUnfit, MessageUnfit, LinesUnfit}
use Rattle.demands.specs.Demands.{Made, reply_with, whole_reply, reply_of, Leaves, Genuine, Admitted, Fault400, Demand-2}
use Rattle.demands.proofs.Turning.{Fits, fits, fit_call, number_is}
use Rattle.demands.proofs.ByReply.{replies_not_400, replies_not_403, replies_not_406, only_400, only_403, only_406}
use Rattle.demands.proofs.Genuine.{Replies, parts_good, message_good, all_fit}

-- ---- a text at the start of a buffer

pub front : (a b : List ℕ) → take (length a) (a ++ b) ≡ a
front [] b = refl
front (x ∷ a) b = ap (λ (z : List ℕ). x ∷ z) (front a b)

pub behind : (a b : List ℕ) → drop (length a) (a ++ b) ≡ b
behind [] b = refl
behind (x ∷ a) b = behind a b

put_is : (o x : List ℕ) → length x ≤ length o → put o 0 x ≡ x ++ drop (length x) o
unfolding put
put_is [] [] h = refl
put_is [] (b ∷ x) h = absurd (omega arith)
put_is (y ∷ o) [] h = refl
put_is (y ∷ o) (b ∷ x) h = ap (λ (z : List ℕ). b ∷ z) (put_is o x (omega arith))

-- ---- a call that is taken leaves what its message does

taken_answer : (r : CallOutcome) → refusal_of r ≡ 0 → r ≡ Ok (size_of r)
unfolding refusal_of refusal_number size_of
taken_answer (Ok n) e = refl
taken_answer (Err ReplyTooShort) e = absurd (omega (arith, e))
taken_answer (Err TableUnsound) e = absurd (omega (arith, e))
taken_answer (Err RoomUnsound) e = absurd (omega (arith, e))
taken_answer (Err MidUnfit) e = absurd (omega (arith, e))
taken_answer (Err MessageUnfit) e = absurd (omega (arith, e))
taken_answer (Err LinesUnfit) e = absurd (omega (arith, e))

pub fit_leaves : {n : ℕ} {m : List ℕ} {st : State} {r : Room} {own o : List ℕ} (c : Made n m st r own o) → Fits n m st r own o → Leaves c (served_by m st r)
unfolding taken replied written ◌then◌
fit_leaves {n} {m} {st} {r} {own} {o} c f =
    let e : call n m st r own o ≡ taken m st r own o = fit_call f in
    let x : Served = served_by m st r in
    let l : length (whole_reply own x) ≤ length o = omega (arith, reply_fits m st r own f.room f.own_fits.1, f.buffer) in
    record {
      answer = taken_answer c.answer (c.promise.refusal ∙ ap (λ (z : Called). z.refusal) e) ∙ ap Ok (c.promise.size ∙ ap (λ (z : Called). z.size) e);
      state = c.promise.state ∙ ap (λ (z : Called). z.state) e;
      room = c.promise.room ∙ ap (λ (z : Called). z.room) e;
      buffer = c.promise.reply ∙ ap (λ (z : Called). z.reply) e ∙ put_is o (whole_reply own x) l;
    }

-- what a call leaves has one reply
one_reply : {n : ℕ} {m : List ℕ} {st : State} {r : Room} {own o : List ℕ} {c : Made n m st r own o} {x y : Served} → Leaves c x → Leaves c y → whole_reply own x ≡ whole_reply own y
unfolding size_of
one_reply {n} {m} {st} {r} {own} {o} {c} {x} {y} a b =
    let X = whole_reply own x in
    let Y = whole_reply own y in
    let l : length X ≡ length Y = ap size_of (sym a.answer ∙ b.answer) in
    sym (front X (drop (length X) o)) ∙ ap (take (length X)) (sym a.buffer ∙ b.buffer) ∙ ap (λ (k : ℕ). take k (Y ++ drop (length Y) o)) l ∙ front Y (drop (length Y) o)

pub leaves_reply : {n : ℕ} {m : List ℕ} {st : State} {r : Room} {own o : List ℕ} (c : Made n m st r own o) (x : Served) → Leaves c x → reply_of c ≡ whole_reply own x
unfolding size_of
leaves_reply {n} {m} {st} {r} {own} {o} c x l = rw (l.answer, l.buffer) (front (whole_reply own x) (drop (length (whole_reply own x)) o))

first_byte : (own a : List ℕ) → get_or (reply_with own a) 0 0 ≡ 0x21
unfolding header_text ◌then◌
first_byte own a = refl

-- a reply that there is, is the other's text
told_text : (own a b : List ℕ) (t : Bool) → reply_with own a ≡ pick t (reply_with own b) [] → a ≡ b
unfolding pick
told_text own a b true e = sym (behind (header_text own) a) ∙ ap (drop (length (header_text own))) e ∙ behind (header_text own) b
told_text own a b false e = absurd (omega (arith, first_byte own a, ap (λ (z : List ℕ). get_or z 0 0) e))

-- ---- demand 2

module _ {n : ℕ} {m : List ℕ} {st : State} {r : Room} {own o : List ℕ} (c : Made n m st r own o) (e : refusal_of c.answer ≡ 0) where
  pub passed : Fits n m st r own o
  passed = fits 0 refl ((number_is c 0).0 e)

  pub left : Leaves c (served_by m st r)
  left = fit_leaves c passed

  follows : noted_of (served_by m st r) ≡ message_by (sender_of m) (message_r m) st (kept_of r)
  follows = (served_follows m st r passed.room).noted_is

  -- as the message reads
  read_as : (y : Message) → message_r m ≡ y → Leaves c (run_message (sender_of m) y st r)
  read_as y q = subst (λ (z : Message). Leaves c (run_message (sender_of m) z st r)) q left

  as_parts : (ps : List Part) → message_r m ≡ well_formed ps → Leaves c (run_parts (sender_of m) ps st r)
  unfolding run_message
  as_parts ps q = read_as (well_formed ps) q

  gives : (w : List ℕ) (ps : List Part) → megaco_message m 1 w ps → Leaves c (run_parts w ps st r)
  gives w ps d = subst (λ (z : List ℕ). Leaves c (run_parts z ps st r)) (sender_is m w 1 ps d) (as_parts ps (complete m w ps d))

  by_parts : (w : List ℕ) (ps : List Part) → megaco_message m 1 w ps → noted_of (run_parts w ps st r) ≡ parts_by w ps st (kept_of r)
  unfolding run_message message_by
  by_parts w ps d =
      subst (λ (z : List ℕ). noted_of (run_parts z ps st r) ≡ parts_by z ps st (kept_of r)) (sender_is m w 1 ps d)
      (subst (λ (y : Message). noted_of (run_message (sender_of m) y st r) ≡ message_by (sender_of m) y st (kept_of r)) (complete m w ps d) follows)

  on_406 : Fault406 m → Leaves c (served st r (error_text 406) true)
  unfolding run_message
  on_406 f = read_as fault406 ((fault_406 m).1 f)

  on_403 : (id : ℕ) → Fault403 m id → Leaves c (served st r (reply_text id (error_text 403)) true)
  unfolding run_message
  on_403 id f = read_as (fault403 id) ((fault_403 m id).1 f)

  -- a text that was replied is the one that the message leaves
  pub said : (x : List ℕ) → Leaves c (served st r x true) → (message_by (sender_of m) (message_r m) st (kept_of r)).text ≡ x
  unfolding pick
  said x l = ap (λ (z : Noted). z.text) (sym follows) ∙ sym (told_text own x (served_by m st r).text (served_by m st r).told (one_reply l left))

  -- the same of the bytes that were replied
  pub replied_text : (x : List ℕ) → reply_of c ≡ reply_with own x → (message_by (sender_of m) (message_r m) st (kept_of r)).text ≡ x
  replied_text x q =
      let w : Served = served_by m st r in
      let k : reply_of c ≡ whole_reply own w = leaves_reply c w left in
      ap (λ (z : Noted). z.text) (sym follows) ∙ sym (told_text own x w.text w.told (sym q ∙ k))

  module _ (g : Genuine (kept_of r)) where
    ran_only : (ps : List Part) → Few 8 ps → Replies (run_parts (sender_of m) ps st r).text
    ran_only ps f =
        subst Replies (sym (ap (λ (z : Noted). z.text) (parts_follow (sender_of m) (sender_short m) ps st r (all_fit 8 ps f) passed.room).noted_is))
        (parts_good (sender_of m) ps st (kept_of r) g).0

    -- what some parts leave is not what a fault does
    not_said : (ps : List Part) → Few 8 ps → Leaves c (run_parts (sender_of m) ps st r) → (x : List ℕ) → Leaves c (served st r x true) → x ≡ (run_parts (sender_of m) ps st r).text
    unfolding pick
    not_said ps f l x k = told_text own x (run_parts (sender_of m) ps st r).text (run_parts (sender_of m) ps st r).told (one_reply k l)

    run_back : (ps : List Part) → Few 8 ps → Leaves c (run_parts (sender_of m) ps st r) → (y : Message) → message_r m ≡ y → Admitted m
    unfolding run_message
    run_back ps f l (well_formed ys) q = (sender_of m, ys, read_derives m ys q)
    run_back ps f l fault400 q = absurd (replies_not_400 _ (ran_only ps f) (sym (not_said ps f l (error_text 400) (read_as fault400 q))))
    run_back ps f l (fault403 id) q = absurd (replies_not_403 _ (ran_only ps f) id (sym (not_said ps f l (reply_text id (error_text 403)) (read_as (fault403 id) q))))
    run_back ps f l fault406 q = absurd (replies_not_406 _ (ran_only ps f) (sym (not_said ps f l (error_text 406) (read_as fault406 q))))

    run : Admitted m ↔ ((ps : List Part) × Few 8 ps × Leaves c (run_parts (sender_of m) ps st r))
    run = (
      λ d. let q = complete m d.0 d.1 d.2 in (d.1, subst (FewIn 8) q (few_read m), as_parts d.1 q),
      λ l. run_back l.0 l.1 l.2 (message_r m) refl,
    )

    back_406 : Leaves c (served st r (error_text 406) true) → Fault406 m
    back_406 l = (fault_406 m).0 (only_406 (sender_of m) st (kept_of r) g (message_r m) (said (error_text 406) l))

    back_403 : (id : ℕ) → Leaves c (served st r (reply_text id (error_text 403)) true) → Fault403 m id
    back_403 id l = (fault_403 m id).0 (only_403 (sender_of m) st (kept_of r) g (message_r m) id (said (reply_text id (error_text 403)) l))

    pub again : Genuine (kept_of c.room)
    again = subst Genuine (sym (ap kept_of left.room ∙ ap (λ (z : Noted). z.kept) follows)) (message_good (sender_of m) (message_r m) st (kept_of r) g)

elsewhere : (m : List ℕ) → message_r m ≡ fault400 ↔ Fault400 m
elsewhere m = (
  λ q. let f = (fault_400 m).0 q in record { not_admitted = λ d. f.0 d.0 d.1 d.2; not_403 = f.1; not_406 = f.2 },
  λ f. (fault_400 m).1 (λ w xs d. f.not_admitted (w, xs, d), f.not_403, f.not_406),
)

module _ {n : ℕ} {m : List ℕ} {st : State} {r : Room} {own o : List ℕ} (c : Made n m st r own o) (e : refusal_of c.answer ≡ 0) where
  on_400 : Fault400 m → Leaves c (served st r (error_text 400) true)
  unfolding run_message
  on_400 f = read_as c e fault400 ((elsewhere m).1 f)

  back_400 : Genuine (kept_of r) → Leaves c (served st r (error_text 400) true) → Fault400 m
  back_400 g l = (elsewhere m).0 (only_400 (sender_of m) st (kept_of r) g (message_r m) (said c e (error_text 400) l))

one_of : (m : List ℕ) → Admitted m ⊎ Fault406 m ⊎ ((id : ℕ) × Fault403 m id) ⊎ Fault400 m
one_of m = go (message_r m) refl
  where
    go : (y : Message) → message_r m ≡ y → Admitted m ⊎ Fault406 m ⊎ ((id : ℕ) × Fault403 m id) ⊎ Fault400 m
    go (well_formed xs) q = inl (sender_of m, xs, read_derives m xs q)
    go fault406 q = inr (inl ((fault_406 m).0 q))
    go (fault403 id) q = inr (inr (inl (id, (fault_403 m id).0 q)))
    go fault400 q = inr (inr (inr ((elsewhere m).0 q)))

pub demand_2 : Demand-2
demand_2 n m st r own o c e = (
  record {
    gives = gives c e;
    by_the_list = by_parts c e;
    only = λ w v ps qs d f. let z = one_meaning m 1 1 w v ps qs d f in (z.1, z.2);
    on_406 = on_406 c e;
    on_403 = on_403 c e;
    on_400 = on_400 c e;
    one_of = one_of m;
  },
  record {
    run = (λ d. let q = complete m d.0 d.1 d.2 in (d.1, q, as_parts c e d.1 q), λ l. (sender_of m, l.0, read_derives m l.0 l.1));
    on_406 = (λ f. ((fault_406 m).1 f, on_406 c e f), λ l. (fault_406 m).0 l.0);
    on_403 = λ id. (λ f. ((fault_403 m id).1 f, on_403 c e id f), λ l. (fault_403 m id).0 l.0);
    on_400 = (λ f. ((elsewhere m).1 f, on_400 c e f), λ l. (elsewhere m).0 l.0);
  },
  λ g. record {
    run = run c e g;
    on_406 = (on_406 c e, back_406 c e g);
    on_403 = λ id. (on_403 c e id, back_403 c e g id);
    on_400 = (on_400 c e, back_400 c e g);
    again = again c e g;
  },
)

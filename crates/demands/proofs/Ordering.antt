-- Demand 3: four calls, in both orders.
use Prim.Native.Nat.{ℕ}
use mathlib.Core.Path.{◌≡◌, refl, sym, ap, subst, ◌∙◌}
use mathlib.Core.Bool.{true}
use mathlib.Core.List.{List, [], ◌∷◌, ◌++◌}
use mathlib.Core.Option.{Option, none, some}
use lib.ListN.{length, drop}
use native.Mathlib.Omega.{arith}
use Rattle.base.proofs.TextLaws.{then_none}
use Rattle.base.specs.Pick.{pick}
use Rattle.megaco.specs.Tree.{Transaction, request}
use Rattle.megaco.specs.Kept.{Kept, find}
use Rattle.megaco.specs.Room.{Room, kept_of, room_sound}
use Rattle.megaco.specs.Table.{words, sound}
use Rattle.megaco.specs.State.{State}
use Rattle.megaco.specs.Message.{Served, identifier}
use Rattle.megaco.proofs.Sizes.{fitted_is}
use Rattle.laws.proofs.Sound.{sound_whole}
use Rattle.laws.proofs.RoomFacts.{sound_room}
use Rattle.laws.specs.Apart.{Apart}
use Rattle.laws.specs.Bounds.{served_by}
use Rattle.laws.specs.KeptReplies.{Noted, noted, noted_of, answered_by, part_by, parts_by, message_by, EitherOrderKept}
use Rattle.laws.proofs.KeptRuns.{either_order_kept, any_mixture_kept}
use Rattle.laws.proofs.Bounds.{served_follows}
use Rattle.laws.proofs.Demand.{either_order, any_mixture}
use Rattle.gateway.specs.Answers.{refusal_of, size_of}
use Rattle.std.specs.Prelude.{Ok}
use Rattle.grammar.specs.Grammar.{megaco_message}
use Rattle.grammar.proofs.Theorems.{complete, sender_is}
use Rattle.demands.specs.Demands.{Made, LinesFit, BufferFits, StateFits, OwnFits, MessageFits, all_fit, InRange, reply_with, Leaves, Conditions, Sent, reply_of, Alike, Demand-3, whole_reply}
use Rattle.demands.proofs.Turning.{number_is, demand_1}
use Rattle.demands.proofs.Admitting.{front, left}

-- the conditions, but for the grammar's
pub apart_of : {st : State} {ks : List Kept} {s t : List ℕ} {x y : Transaction} → Conditions st ks s t x y → Apart st.table x y
apart_of c =
    record { contexts_one = c.contexts_one; contexts_two = c.contexts_two; names_one = c.names_one; names_two = c.names_two; terminations = c.terminations; contexts = c.contexts }

-- a sound table's count of lines is a good one
lines_fit : (n : ℕ) (t : List ℕ) → length t ≡ words n → sound t ≡ true → LinesFit n
lines_fit n t l s = let w = sound_whole t s in let f = fitted_is n t l in (omega (arith, f, w.some), omega (arith, f, w.few))

-- one call for a message of one transaction, of the sender w
pub record Done {n : ℕ} {m : List ℕ} {st : State} {r : Room} {own o : List ℕ} (c : Made n m st r own o) (x : Noted) : Type 0 where
  pub taken : refusal_of c.answer ≡ 0
  pub state : c.state ≡ x.state
  pub kept : kept_of c.room ≡ x.kept
  pub answer : c.answer ≡ Ok (length (reply_with own x.text))
  pub buffer : c.buffer ≡ reply_with own x.text ++ drop (length (reply_with own x.text)) o
  pub fits : StateFits n c.state
  pub room : room_sound c.room ≡ true

-- a request is always answered
told_part : (w : List ℕ) (x : Transaction) (st : State) (ks : List Kept) → (part_by w (request x) st ks).told ≡ true
unfolding part_by answered_by
told_part w x st ks = by (find w (identifier x) ks)
  where
    by : (y : Option (List ℕ)) → (answered_by w x st ks y).told ≡ true
    by none = refl
    by (some y) = refl

alone : (w : List ℕ) (x : Transaction) (st : State) (ks : List Kept) → parts_by w (request x ∷ []) st ks ≡ noted (part_by w (request x) st ks).state (part_by w (request x) st ks).kept (part_by w (request x) st ks).text true
unfolding parts_by
alone w x st ks = rw (told_part w x st ks, then_none (part_by w (request x) st ks).text)

done : {n : ℕ} {m : List ℕ} {st : State} {r : Room} {own o : List ℕ} (c : Made n m st r own o) (w : List ℕ) (x : Transaction) → megaco_message m 1 w (request x ∷ []) → MessageFits m → OwnFits own
    → BufferFits o → StateFits n st → room_sound r ≡ true → Done c (part_by w (request x) st (kept_of r))
unfolding message_by pick
done {n} {m} {st} {r} {own} {o} c w x d f q b s v =
    let e : refusal_of c.answer ≡ 0 = (number_is c 0).1 (all_fit (lines_fit n st.table s.0 s.1) b s (sound_room r v) q f) in
    let i : InRange st r o c = (demand_1 n m st r own o c).taken e in
    let y : Served = served_by m st r in
    let N : Noted = part_by w (request x) st (kept_of r) in
    let g : noted_of y ≡ noted N.state N.kept N.text true =
    (served_follows m st r v).noted_is ∙ rw (complete m w (request x ∷ []) d, sender_is m w 1 (request x ∷ []) d) (alone w x st (kept_of r)) in
    let l : Leaves c y = left c e in
    let h : whole_reply own y ≡ reply_with own N.text = ap (λ (z : Noted). pick z.told (reply_with own z.text) []) g in
    record {
      taken = e;
      state = l.state ∙ ap (λ (z : Noted). z.state) g;
      kept = ap kept_of l.room ∙ ap (λ (z : Noted). z.kept) g;
      answer = l.answer ∙ ap (λ (z : List ℕ). Ok (length z)) h;
      buffer = l.buffer ∙ ap (λ (z : List ℕ). z ++ drop (length z) o) h;
      fits = (i.size ∙ s.0, i.again, i.blocks_again);
      room = i.room;
    }

-- what was replied
done_reply : {n : ℕ} {m : List ℕ} {st : State} {r : Room} {own o : List ℕ} {c : Made n m st r own o} {x : Noted} → Done c x → reply_of c ≡ reply_with own x.text
unfolding size_of
done_reply {n} {m} {st} {r} {own} {o} {c} {x} l = rw (l.answer, l.buffer) (front (reply_with own x.text) (drop (length (reply_with own x.text)) o))

-- two calls that leave the same text
module _ {n₁ n₂ : ℕ} {m₁ m₂ : List ℕ} {st₁ st₂ : State} {r₁ r₂ : Room} {own o₁ o₂ : List ℕ} {c : Made n₁ m₁ st₁ r₁ own o₁} {d : Made n₂ m₂ st₂ r₂ own o₂} {x y : Noted}
    (l : Done c x) (k : Done d y) (e : x.text ≡ y.text) where
  same_answer : c.answer ≡ d.answer
  same_answer = l.answer ∙ ap (λ (z : List ℕ). Ok (length (reply_with own z))) e ∙ sym k.answer

  same_reply : reply_of c ≡ reply_of d
  same_reply = done_reply l ∙ ap (reply_with own) e ∙ sym (done_reply k)

  same_buffer : o₁ ≡ o₂ → c.buffer ≡ d.buffer
  same_buffer q =
      let f : List ℕ → List ℕ → List ℕ = λ z o. reply_with own z ++ drop (length (reply_with own z)) o in
      l.buffer ∙ ap (λ (z : List ℕ). f z o₁) e ∙ ap (f y.text) q ∙ sym k.buffer

module _ {st : State} {ks : List Kept} {s t : List ℕ} {x y : Transaction} (h : EitherOrderKept s t x y st ks) (u : sound st.table ≡ true) where
  calls_alike : (n : ℕ) (r : Room) → kept_of r ≡ ks → (own m k : List ℕ) → Sent n st r own m k s t x y
      → (o₁ o₂ o₃ o₄ : List ℕ) → BufferFits o₁ → BufferFits o₂ → BufferFits o₃ → BufferFits o₄
      → (a : Made n m st r own o₁) (b : Made n k a.state a.room own o₂) (c : Made n k st r own o₃) (d : Made n m c.state c.room own o₄) → Alike a b c d
  calls_alike n r q own m k e o₁ o₂ o₃ o₄ f₁ f₂ f₃ f₄ a b c d =
      let one : List Kept → State → Noted = λ l z. part_by s (request x) z l in
      let two : List Kept → State → Noted = λ l z. part_by t (request y) z l in
      let A : Done a (one ks st) = subst (λ (l : List Kept). Done a (one l st)) q (done a s x e.one e.size_one e.own_fits f₁ (e.lines, u, e.blocks) e.room) in
      let C : Done c (two ks st) = subst (λ (l : List Kept). Done c (two l st)) q (done c t y e.two e.size_two e.own_fits f₃ (e.lines, u, e.blocks) e.room) in
      let B₀ : Done b (two (kept_of a.room) a.state) = done b t y e.two e.size_two e.own_fits f₂ A.fits A.room in
      let D₀ : Done d (one (kept_of c.room) c.state) = done d s x e.one e.size_one e.own_fits f₄ C.fits C.room in
      let B : Done b (two (one ks st).kept (one ks st).state) = subst (λ (l : List Kept). Done b (two l (one ks st).state)) A.kept (subst (λ (z : State). Done b (two (kept_of a.room) z)) A.state B₀) in
      let D : Done d (one (two ks st).kept (two ks st).state) = subst (λ (l : List Kept). Done d (one l (two ks st).state)) C.kept (subst (λ (z : State). Done d (one (kept_of c.room) z)) C.state D₀) in
      record {
        taken = (A.taken, B.taken, C.taken, D.taken);
        blocks = ap (λ (z : State). z.blocks) B.state ∙ h.blocks;
        state = B.state ∙ h.state ∙ sym D.state;
        kept = rw (B.kept, D.kept) h.kept;
        answer_one = same_answer A D h.reply_one;
        answer_two = same_answer B C h.reply_two;
        reply_one = same_reply A D h.reply_one;
        reply_two = same_reply B C h.reply_two;
        buffer_one = same_buffer A D h.reply_one;
        buffer_two = same_buffer B C h.reply_two;
      }

pub demand_3 : Demand-3
demand_3 st ks s t x y c =
    let A : Apart st.table x y = apart_of c in
    record {
      transactions = either_order st c.start x y A;
      calls = calls_alike (either_order_kept s t x y st ks c.start A c.pairs) c.start;
      mixture = λ z. (any_mixture st c.start x y A z, any_mixture_kept s t x y st ks c.start A c.pairs z);
    }

-- The afternoon: on a fault, told by the reply's bytes, the state and the room are what they were.
use Prim.Native.Nat.{ℕ}
use mathlib.Core.Path.{◌≡◌, sym, ap, ◌∙◌}
use mathlib.Core.Logic.{◌≢◌}
use mathlib.Core.List.{List}
use native.Mathlib.Omega.{arith}
use Rattle.megaco.specs.Tree.{Part, well_formed, fault400, fault403, fault406}
use Rattle.megaco.specs.Reading.{message_r, sender_of}
use Rattle.megaco.specs.State.{State}
use Rattle.megaco.specs.Room.{Room, kept_of}
use Rattle.megaco.specs.Call.{Called, call}
use Rattle.laws.specs.KeptReplies.{message_by}
use Rattle.laws.proofs.Bounds.{fault_keeps}
use Rattle.gateway.specs.Answers.{refusal_of}
use Rattle.demands.specs.Demands.{Made, reply_with, reply_of, Genuine}
use Rattle.demands.specs.Afternoon.{Faulted, with_400, with_406, with_403, SameAs, Afternoon}
use Rattle.demands.proofs.ByReply.{only_400, only_406, only_403}
use Rattle.demands.proofs.Admitting.{replied_text}

module _ {n : ℕ} {m : List ℕ} {st : State} {r : Room} {own o : List ℕ} (c : Made n m st r own o) (g : Genuine (kept_of r)) (e : refusal_of c.answer ≡ 0) where
  -- what was replied is the text that the message leaves
  text_is : (x : List ℕ) → reply_of c ≡ reply_with own x → (message_by (sender_of m) (message_r m) st (kept_of r)).text ≡ x
  text_is x q = replied_text c e x q

  faulty : Faulted c → (ps : List Part) → message_r m ≢ well_formed ps
  faulty (with_400 q) ps f = let h : message_r m ≡ fault400 = only_400 (sender_of m) st (kept_of r) g (message_r m) (text_is _ q) in let z : ◌≡◌ {A = ℕ} 0 1 = cc in omega arith
  faulty (with_406 q) ps f = let h : message_r m ≡ fault406 = only_406 (sender_of m) st (kept_of r) g (message_r m) (text_is _ q) in let z : ◌≡◌ {A = ℕ} 0 1 = cc in omega arith
  faulty (with_403 id q) ps f = let h : message_r m ≡ fault403 id = only_403 (sender_of m) st (kept_of r) g (message_r m) id (text_is _ q) in let z : ◌≡◌ {A = ℕ} 0 1 = cc in omega arith

  all_kept : Faulted c → (c.state ≡ st) × (c.room ≡ r)
  all_kept f = let k = fault_keeps n m st r own o (faulty f) in (c.promise.state ∙ k.0, c.promise.room ∙ k.1)

-- two calls from states and rooms that are the same
same_calls : {n : ℕ} {k : List ℕ} {st u : State} {r v : Room} {own o : List ℕ} (b : Made n k u v own o) (d : Made n k st r own o) → u ≡ st → v ≡ r → SameAs b d
same_calls {n} {k} {st} {u} {r} {v} {own} {o} b d e f =
    let q : call n k u v own o ≡ call n k st r own o = (λ i. call n k (e i) (f i) own o) in
    record {
      refusal = b.promise.refusal ∙ ap (λ (z : Called). z.refusal) q ∙ sym d.promise.refusal;
      size = b.promise.size ∙ ap (λ (z : Called). z.size) q ∙ sym d.promise.size;
      state = b.promise.state ∙ ap (λ (z : Called). z.state) q ∙ sym d.promise.state;
      room = b.promise.room ∙ ap (λ (z : Called). z.room) q ∙ sym d.promise.room;
      buffer = b.promise.reply ∙ ap (λ (z : Called). z.reply) q ∙ sym d.promise.reply;
    }

pub afternoon : Afternoon
afternoon n m st r own o c g e f = let s = all_kept c g e f in (s.0, s.1, λ k o' b d. same_calls b d s.0 s.1)

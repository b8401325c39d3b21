-- A repeat is answered and not run; and the rooms that calls lead to.
use Prim.Native.Nat.{ℕ}
use mathlib.Core.Path.{◌≡◌, refl, sym, subst, ◌∙◌}
use mathlib.Core.Bool.{Bool, true, false}
use mathlib.Core.List.Memᴰ
use mathlib.Core.List.{List, [], ◌∷◌}
use lib.Dec.{eqb}
use borrow.Author.Tests.{eqb-true, eqb-false}
use Rattle.megaco.specs.Tree.{request}
use Rattle.megaco.specs.State.{State}
use Rattle.megaco.specs.Room.{Room, kept_of}
use Rattle.megaco.specs.Message.{Served}
use Rattle.grammar.proofs.Theorems.{complete}
use Rattle.laws.specs.Bounds.{served_by}
use Rattle.laws.proofs.Bounds.{repeated}
use Rattle.laws.proofs.RoomFacts.{sound_room}
use Rattle.gateway.specs.Answers.{refusal_of}
use Rattle.demands.specs.Demands.{Made, all_fit, InRange, Leaves, Genuine, empty, called, Reached-Genuine, Repeated}
use Rattle.demands.proofs.Turning.{Fits, number_is, demand_1}
use Rattle.demands.proofs.Admitting.{passed, left, leaves_reply, again}

pub repeats : Repeated
repeats n m w x d st r own o₁ o₂ a e f b =
    let F : Fits n m st r own o₁ = passed a e in
    let i : InRange st r o₁ a = (demand_1 n m st r own o₁ a).taken e in
    let t : refusal_of b.answer ≡ 0 =
    (number_is b 0).1 (all_fit F.lines f (i.size ∙ F.lent.0, i.again, i.blocks_again) (sound_room a.room i.room) F.own_fits F.message) in
    let y : Served = served_by m st r in
    let A : Leaves a y = left a e in
    let q : served_by m a.state a.room ≡ y = (λ j. served_by m (A.state j) (A.room j)) ∙ repeated m x (complete m w (request x ∷ []) d) st r F.room in
    let B : Leaves b y = subst (λ (z : Served). Leaves b z) q (left b t) in
    record {
      taken = t;
      state = B.state ∙ sym A.state;
      room = B.room ∙ sym A.room;
      answer = B.answer ∙ sym A.answer;
      reply = leaves_reply b y B ∙ sym (leaves_reply a y A);
    }

-- ---- genuine rooms

call_genuine : {n : ℕ} {m : List ℕ} {st : State} {r : Room} {own o : List ℕ} (c : Made n m st r own o) → Genuine (kept_of r) → Genuine (kept_of c.room)
call_genuine {n} {m} {st} {r} {own} {o} c g = by (eqb (refusal_of c.answer) 0) refl
  where
    by : (t : Bool) → eqb (refusal_of c.answer) 0 ≡ t → Genuine (kept_of c.room)
    by true e = again c (eqb-true _ 0 e) g
    by false e = subst (λ (z : Room). Genuine (kept_of z)) (sym ((demand_1 n m st r own o c).down (eqb-false _ 0 e)).room) g

pub reached_genuine : Reached-Genuine
reached_genuine r (empty e) = subst Genuine (sym e) (λ k i. absurd (Memᴰ.not-nil i))
reached_genuine r (called {r = s} h c) = call_genuine c (reached_genuine s h)

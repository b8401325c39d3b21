-- Which calls are turned down: each test of the call and what it tests, and that the refusal is the first that applies.
use Prim.Native.Nat.{ℕ}
use mathlib.Core.Path.{◌≡◌}
use mathlib.Core.Bool.{not, ◌||◌}
use mathlib.Core.List.{List}
use lib.ListN.{length}
use lib.Dec.{ltb, eqb}
use borrow.Author.Tests.{ltb-false, le-ltb, eqb-false, ne_eqb, not-false}
use native.Mathlib.Omega.{arith}
use Rattle.base.specs.Pick.{pick}
use Rattle.base.proofs.PickLaws.{pick_ind}
use Rattle.base.proofs.TestLaws.{or_neither}
use Rattle.megaco.specs.Tokens.{is_mid}
use Rattle.megaco.specs.State.{State}
use Rattle.megaco.specs.Room.{Room, room_sound}
use Rattle.megaco.specs.Call.{Called, written, replied, taken, call}
use Rattle.grammar.proofs.OwnLaws.{own_mid_lem}
use Rattle.laws.proofs.RoomFacts.{sound_room, room_sound_lem}
use Rattle.laws.proofs.Packets.{Tests, unfit, raised, not_up, lines_test, state_test}
use Rattle.demands.specs.Demands.{BufferFits, OwnFits, MessageFits, Refusal, lines_unfit, buffer_unfit, state_unfit, own_unfit, message_unfit, all_fit, RoomFits, room_unfit}

-- ---- each test of the call, and what it tests

pub buffer_test : (o : List ℕ) → Tests (ltb (length o) 16640) (BufferFits o)
buffer_test o = (ltb-false (length o) 16640, le-ltb (length o) 16640)

pub room_test : (r : Room) → Tests (not (room_sound r)) (RoomFits r)
room_test r = (λ e. sound_room r (not-false _ e), λ h. not_up _ (room_sound_lem r h))

pub own_test : (own : List ℕ) → Tests (not (is_mid own)) (OwnFits own)
own_test own = (λ e. (own_mid_lem own).0 (not-false _ e), λ h. not_up _ ((own_mid_lem own).1 h))

pub message_test : (m : List ℕ) → Tests (eqb (length m) 0 || ltb 4096 (length m)) (MessageFits m)
message_test m = (
  λ e. let b = or_neither (eqb (length m) 0) (ltb 4096 (length m)) e in
      (omega (arith, eqb-false (length m) 0 b.0), ltb-false 4096 (length m) b.1),
  λ h. rw (ne_eqb (length m) 0 (λ e. omega (arith, e, h.0)), le-ltb 4096 (length m) h.1),
)

-- ---- the refusal is the first that applies

module _ (n : ℕ) (m : List ℕ) (st : State) (r : Room) (own o : List ℕ) where
  pub call_refusal : Refusal n m st r own o (call n m st r own o).refusal
  unfolding call taken replied written
  call_refusal =
      let P : Called → Type 0 = λ c. Refusal n m st r own o c.refusal in
      pick_ind P _ _ _ (λ z. lines_unfit (unfit (lines_test n) z)) λ e.
      let a = (lines_test n).0 e in
      pick_ind P _ _ _ (λ z. buffer_unfit a (unfit (buffer_test o) z)) λ f.
      let b = (buffer_test o).0 f in
      pick_ind P _ _ _ (λ z. state_unfit a b (unfit (state_test n st) z)) λ g.
      let c = (state_test n st).0 g in
      pick_ind P _ _ _ (λ z. room_unfit a b c (unfit (room_test r) z)) λ j.
      let v = (room_test r).0 j in
      pick_ind P _ _ _ (λ z. own_unfit a b c v (unfit (own_test own) z)) λ h.
      let d = (own_test own).0 h in
      pick_ind P _ _ _ (λ z. message_unfit a b c v d (unfit (message_test m) z)) λ i.
      all_fit a b c v d ((message_test m).0 i)

  pub refusal_call : (k : ℕ) → Refusal n m st r own o k → (call n m st r own o).refusal ≡ k
  unfolding call taken replied written pick
  refusal_call k (lines_unfit h) = rw (raised _ (lines_test n) h)
  refusal_call k (buffer_unfit a h) = rw ((lines_test n).1 a, raised _ (buffer_test o) h)
  refusal_call k (state_unfit a b h) = rw ((lines_test n).1 a, (buffer_test o).1 b, raised _ (state_test n st) h)
  refusal_call k (room_unfit a b c h) = rw ((lines_test n).1 a, (buffer_test o).1 b, (state_test n st).1 c, raised _ (room_test r) h)
  refusal_call k (own_unfit a b c v h) = rw ((lines_test n).1 a, (buffer_test o).1 b, (state_test n st).1 c, (room_test r).1 v, raised _ (own_test own) h)
  refusal_call k (message_unfit a b c v d h) =
      rw ((lines_test n).1 a, (buffer_test o).1 b, (state_test n st).1 c, (room_test r).1 v, (own_test own).1 d, raised _ (message_test m) h)
  refusal_call k (all_fit a b c v d h) = rw ((lines_test n).1 a, (buffer_test o).1 b, (state_test n st).1 c, (room_test r).1 v, (own_test own).1 d, (message_test m).1 h)

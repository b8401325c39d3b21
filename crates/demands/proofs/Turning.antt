-- Demand 1: which calls are turned down, and what every call leaves; the same of a packet.
use Prim.Native.Nat.{ℕ, ◌+◌, ◌*◌}
use mathlib.Core.Path.{◌≡◌, refl, sym, ap, subst, ◌∙◌}
use mathlib.Core.Logic.{◌↔◌, ◌≢◌}
use mathlib.Core.Bool.{true}
use mathlib.Core.List.{List}
use lib.ListN.{length}
use native.Mathlib.Omega.{arith}
use Rattle.base.specs.Pick.{pick}
use Rattle.megaco.specs.State.{State}
use Rattle.megaco.specs.Room.{Room, room_sound}
use Rattle.megaco.specs.Call.{taken, call}
use Rattle.laws.proofs.Bounds.{refusal_keeps, call_bounded, room_keeps}
use Rattle.laws.proofs.RoomFacts.{room_sound_lem}
use Rattle.laws.proofs.Runs.{call_length}
use Rattle.laws.proofs.Kept.{call_sound}
use Rattle.laws.proofs.Figures.{call_length_blocks, call_blocks_sound}
use Rattle.laws.proofs.Packets.{not_up, lines_test, state_test, packet_number, packet_down, packet_taken}
use Rattle.laws.specs.Packets.{Updates}
use Rattle.gateway.specs.Answers.{CallOutcome, refusal_number, refusal_of, size_of}
use Rattle.std.specs.Prelude.{Ok, Err}
use Rattle.gateway.specs.declared.Refusal.TheVariants.{ReplyTooShort, TableUnsound, MidUnfit, MessageUnfit, LinesUnfit, RoomUnsound}
use Rattle.demands.specs.Demands.{Made, From-C, LinesFit, BufferFits, StateFits, OwnFits, MessageFits, Refusal, lines_unfit, buffer_unfit, state_unfit, own_unfit, message_unfit, all_fit, Untouched, InRange, Demand-1, Packets, room_unfit}
use Rattle.demands.proofs.Refusing.{buffer_test, own_test, message_test, call_refusal, refusal_call}

-- what a call that is taken has passed
pub record Fits (n : ℕ) (m : List ℕ) (st : State) (r : Room) (own o : List ℕ) : Type 0 where
  pub lines : LinesFit n
  pub buffer : BufferFits o
  pub lent : StateFits n st
  pub room : room_sound r ≡ true
  pub own_fits : OwnFits own
  pub message : MessageFits m

pub fits : {n : ℕ} {m : List ℕ} {st : State} {r : Room} {own o : List ℕ} (k : ℕ) → k ≡ 0 → Refusal n m st r own o k → Fits n m st r own o
fits k e (lines_unfit h) = absurd (omega (arith, e))
fits k e (buffer_unfit a h) = absurd (omega (arith, e))
fits k e (state_unfit a b h) = absurd (omega (arith, e))
fits k e (room_unfit a b c h) = absurd (omega (arith, e))
fits k e (own_unfit a b c v h) = absurd (omega (arith, e))
fits k e (message_unfit a b c v d h) = absurd (omega (arith, e))
fits {r = r} k e (all_fit a b c v d h) = record { lines = a; buffer = b; lent = c; room = room_sound_lem r v; own_fits = d; message = h }

pub fit_call : {n : ℕ} {m : List ℕ} {st : State} {r : Room} {own o : List ℕ} → Fits n m st r own o → call n m st r own o ≡ taken m st r own o
unfolding call pick
fit_call {n} {m} {st} {r} {own} {o} f =
    rw ((lines_test n).1 f.lines, (buffer_test o).1 f.buffer, (state_test n st).1 f.lent, not_up _ f.room, (own_test own).1 f.own_fits, (message_test m).1 f.message)

-- ---- demand 1

module _ {n : ℕ} {m : List ℕ} {st : State} {r : Room} {own o : List ℕ} (c : Made n m st r own o) where
  pub number_is : (k : ℕ) → refusal_of c.answer ≡ k ↔ Refusal n m st r own o k
  number_is k = (
    λ e. subst (Refusal n m st r own o) (sym c.promise.refusal ∙ e) (call_refusal n m st r own o),
    λ v. c.promise.refusal ∙ refusal_call n m st r own o k v,
  )

  untouched : refusal_of c.answer ≢ 0 → Untouched st r o c
  untouched h =
      let k = refusal_keeps n m st r own o (λ e. h (c.promise.refusal ∙ e)) in
      record { size = c.promise.size ∙ k.size; state = c.promise.state ∙ k.state; room = c.promise.room ∙ k.room; buffer = c.promise.reply ∙ k.reply }

  in_range : refusal_of c.answer ≡ 0 → InRange st r o c
  in_range e =
      let b = call_bounded n m st r own o in
      let f : Fits n m st r own o = fits 0 refl ((number_is 0).0 e) in
      record {
        within = omega (arith, c.promise.size, b.fits, f.buffer);
        long = ap length c.promise.reply ∙ b.long;
        past = rw (c.promise.size, c.promise.reply) b.past;
        size = ap (λ (z : State). length z.table) c.promise.state ∙ call_length n m st r own o;
        again = rw c.promise.state (call_sound n m st r own o f.lent.1);
        blocks_size = ap (λ (z : State). length z.blocks) c.promise.state ∙ call_length_blocks n m st r own o;
        blocks_again = rw c.promise.state (call_blocks_sound n m st r own o f.lent.2);
        room = rw c.promise.room (room_keeps n m st r own o f.room);
      }

pub demand_1 : Demand-1
demand_1 n m st r own o c = record { number = number_is c; down = untouched c; taken = in_range c }

-- ---- a packet

pub packets : Packets
packets n st k arrival stamp c =
    record {
      number = λ r. (λ e. (packet_number n st k arrival stamp r).0 (sym c.promise.refusal ∙ e), λ v. c.promise.refusal ∙ (packet_number n st k arrival stamp r).1 v);
      down = λ h. c.promise.blocks ∙ packet_down n st k arrival stamp (λ e. h (c.promise.refusal ∙ e));
      taken = λ e. subst (λ (b : List ℕ). Updates st.blocks b k arrival stamp) (sym c.promise.blocks) (packet_taken n st k arrival stamp (sym c.promise.refusal ∙ e));
    }

-- ---- an answer for each refusal: a call from C

record Outcomes (k s : ℕ) : Type 0 where
  outcome : CallOutcome
  refusal : refusal_of outcome ≡ k
  size : size_of outcome ≡ s

outcomes : {n : ℕ} {m : List ℕ} {st : State} {r : Room} {own o : List ℕ} {k : ℕ} (s : ℕ) → (k ≢ 0 → s ≡ 0) → Refusal n m st r own o k → Outcomes k s
unfolding refusal_of refusal_number size_of
outcomes s z (lines_unfit h) = record { outcome = Err LinesUnfit; refusal = refl; size = sym (z (λ e. omega (arith, e))) }
outcomes s z (buffer_unfit a h) = record { outcome = Err ReplyTooShort; refusal = refl; size = sym (z (λ e. omega (arith, e))) }
outcomes s z (state_unfit a b h) = record { outcome = Err TableUnsound; refusal = refl; size = sym (z (λ e. omega (arith, e))) }
outcomes s z (room_unfit a b c h) = record { outcome = Err RoomUnsound; refusal = refl; size = sym (z (λ e. omega (arith, e))) }
outcomes s z (own_unfit a b c v h) = record { outcome = Err MidUnfit; refusal = refl; size = sym (z (λ e. omega (arith, e))) }
outcomes s z (message_unfit a b c v d h) = record { outcome = Err MessageUnfit; refusal = refl; size = sym (z (λ e. omega (arith, e))) }
outcomes s z (all_fit a b c v d h) = record { outcome = Ok s; refusal = refl; size = refl }

pub from_c : From-C
from_c n m st r own o st' r' o' k p =
    let x = outcomes (call n m st r own o).size (λ h. (refusal_keeps n m st r own o h).size) (call_refusal n m st r own o) in (
      record { state = st'; room = r'; buffer = o'; answer = x.outcome; promise = record { refusal = x.refusal; size = x.size; state = p.state; room = p.room; reply = p.reply } },
      refl,
      refl,
      refl,
      p.answer ∙ (λ i. sym x.size i + 4294967296 * sym x.refusal i),
    )

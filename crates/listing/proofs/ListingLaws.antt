-- The answer to a line, from what the gateway answers.
use Prim.Native.Nat.{ℕ, ◌≤◌, ◌<◌}
use mathlib.Core.Path.{◌≡◌, sym, ap, ◌∙◌}
use mathlib.Core.List.{List, [], ◌∷◌}
use native.Mathlib.Omega.{arith}
use lib.ListN.{length}
use Rattle.base.specs.Bytes.{text}
use Rattle.base.specs.Out.{Appended}
use Rattle.megaco.specs.State.{state}
use Rattle.megaco.specs.Room.{room}
use Rattle.megaco.specs.Call.{call}
use Rattle.gateway.specs.Answers.{CallOutcome, refusal_number, refusal_of, size_of, Answered}
use Rattle.std.specs.Prelude.{Ok, Err}
use Rattle.gateway.specs.declared.Refusal.{Refusal}
use Rattle.gateway.specs.declared.Refusal.TheVariants.{MessageUnfit, TableUnsound, ReplyTooShort, MidUnfit, RoomUnsound, LinesUnfit}
use Rattle.sessions.specs.Lines.{line_end}
use Rattle.sessions.specs.Listing.{lines, refused_text}
use Rattle.sessions.specs.Session.{lent, own_mid, answer_room, Answers}
use Rattle.sessions.proofs.AnswerLaws.{answers_reply, answers_refused}

module _ (m t bs w b o : List ℕ) (a : CallOutcome) (t' bs' w' b' o₁ o' : List ℕ) (r : ℕ) (space : answer_room ≤ length o)
    (got : Answered (call lines m (state t bs) (room w b) (text "[10.0.0.9]") o) (state t' bs') (room w' b') o₁ a) where
  pub line_taken : (n : ℕ) → a ≡ Ok n → Appended o₁ n (line_end ∷ []) o' r → Answers m (lent t bs w b) o (lent t' bs' w' b') o' r
  unfolding own_mid refusal_of size_of
  line_taken n e f =
      answers_reply m (state t bs) (room w b) o (omega arith) n (state t' bs') (room w' b') o₁ o' r (sym got.refusal ∙ ap refusal_of e) (sym (ap size_of e) ∙ got.size) got.state got.room got.reply f

  pub line_refused : (x : Refusal) (k : ℕ) → a ≡ Err x → k ≡ refusal_number x → 0 < k → Appended o₁ 0 (refused_text k) o' r → Answers m (lent t bs w b) o (lent t' bs' w' b') o' r
  unfolding own_mid refusal_of
  line_refused x k e q h f = answers_refused m (state t bs) (room w b) o (omega arith) k (state t' bs') (room w' b') o₁ o' r (sym got.refusal ∙ ap refusal_of e ∙ sym q) h got.state got.room got.reply f

-- each refusal has a number above 0
pub refusal_above : (x : Refusal) (k : ℕ) → k ≡ refusal_number x → 0 < k
unfolding refusal_number
refusal_above MessageUnfit k e = omega (arith, e)
refusal_above TableUnsound k e = omega (arith, e)
refusal_above ReplyTooShort k e = omega (arith, e)
refusal_above MidUnfit k e = omega (arith, e)
refusal_above RoomUnsound k e = omega (arith, e)
refusal_above LinesUnfit k e = omega (arith, e)

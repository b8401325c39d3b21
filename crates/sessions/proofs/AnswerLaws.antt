-- The answer to a line, from the gateway's call with any buffer that is long enough.
use Prim.Native.Nat.{ℕ, ◌≤◌, ◌<◌}
use mathlib.Core.Path.{◌≡◌, refl, sym, ◌∙◌}
use mathlib.Core.Logic.{◌≢◌}
use mathlib.Core.Bool.{Bool, true, false, not, ◌&&◌, ◌||◌}
use mathlib.Core.List.{List, [], ◌∷◌}
use native.Mathlib.Omega.{arith}
use lib.ListN.{length, take, replicate, length-take, length-replicate}
use lib.Dec.{eqb, ltb}
use borrow.Author.Tests.{lt-ltb, le-ltb, eq-eqb, ne_eqb}
use Rattle.base.specs.Pick.{pick}
use Rattle.base.specs.Bytes.{put, ◌then◌}
use Rattle.base.specs.Out.{Appended}
use Rattle.base.proofs.PickLaws.{pick_ind}
use Rattle.base.proofs.TextLaws.{length_then, length_decimal}
use Rattle.base.proofs.OutLaws.{◌▸◌, chosen_yes, chosen_no}
use Rattle.laws.specs.Bounds.{reply_to}
use Rattle.laws.proofs.Bounds.{call_ind, call_bounded, refusal_keeps, call_taken, room_keeps}
use Rattle.laws.proofs.Kept.{call_sound}
use Rattle.laws.proofs.Runs.{call_length}
use Rattle.laws.proofs.Figures.{call_blocks_sound}
use Rattle.megaco.proofs.Opened.{opened}
use Rattle.megaco.specs.Table.{words, sound}
use Rattle.megaco.specs.Names.{within}
use Rattle.megaco.specs.Tokens.{is_mid}
use Rattle.megaco.specs.Blocks.{blocks_are_sound}
use Rattle.megaco.specs.State.{State}
use Rattle.megaco.specs.Room.{Room, room_sound}
use Rattle.megaco.specs.Call.{Called, state_fits, turned_down, written, replied, taken, call}
use Rattle.sessions.specs.Lines.{line_end}
use Rattle.sessions.specs.Listing.{lines, refused_text}
use Rattle.base.proofs.TestLaws.{and_both}
use Rattle.sessions.specs.Session.{Lent, own_mid, ready, answered, left_by, answer_text, answer_room, Answers}

-- the refusal of one of five calls, chosen by four tests
refusal_of_lem : (v x y z : Bool) (e a b c d : Called)
    → (pick v e (pick x a (pick y b (pick z c d)))).refusal ≡ pick v e.refusal (pick x a.refusal (pick y b.refusal (pick z c.refusal d.refusal)))
unfolding pick
refusal_of_lem true x y z e a b c d = refl
refusal_of_lem false true y z e a b c d = refl
refusal_of_lem false false true z e a b c d = refl
refusal_of_lem false false false true e a b c d = refl
refusal_of_lem false false false false e a b c d = refl

-- what a call answers does not depend on the buffer, if that is long enough
refusal_is : (m : List ℕ) (t : State) (v : Room) (own o : List ℕ) → 16640 ≤ length o
    → (call lines m t v own o).refusal
    ≡ pick (not (state_fits lines t)) 2 (pick (not (room_sound v)) 5 (pick (not (is_mid own)) 4 (pick (eqb (length m) 0 || ltb 4096 (length m)) 1 0)))
unfolding call within taken replied written pick
refusal_is m t v own o h =
    rw (le-ltb (length o) 16640 h)
    (refusal_of_lem (not (state_fits lines t)) (not (room_sound v)) (not (is_mid own)) (eqb (length m) 0 || ltb 4096 (length m))
    (turned_down 2 t v o) (turned_down 5 t v o) (turned_down 4 t v o) (turned_down 1 t v o) (taken m t v own o))

reply_is : (m : List ℕ) (t : State) (v : Room) (own o : List ℕ) → (call lines m t v own o).refusal ≡ 0 → (call lines m t v own o).reply ≡ put o 0 (reply_to m t v own)
unfolding taken replied written
reply_is m t v own o =
    call_ind (λ c. c.refusal ≡ 0 → c.reply ≡ put o 0 (reply_to m t v own)) lines m t v own o (λ n p h. absurd (omega arith)) (λ w a l b y s c d e h. refl)

module _ (m : List ℕ) (t : State) (v : Room) (o : List ℕ) (long : 16640 ≤ length o) where
  abbrev here : Lent
  here = record { state = t; room = v }

  same_refusal : (call lines m t v own_mid o).refusal ≡ (answered m here).refusal
  unfolding answered
  same_refusal = refusal_is m t v own_mid o long ∙ sym (refusal_is m t v own_mid (replicate 16640 0) (omega (arith, length-replicate {A = ℕ} 16640 0)))

  -- a reply and a line end
  pub answers_reply : (n : ℕ) (t' : State) (v' : Room) (o₁ o' : List ℕ) (r : ℕ) → (call lines m t v own_mid o).refusal ≡ 0 → n ≡ (call lines m t v own_mid o).size
      → t' ≡ (call lines m t v own_mid o).state → v' ≡ (call lines m t v own_mid o).room → o₁ ≡ (call lines m t v own_mid o).reply → Appended o₁ n (line_end ∷ []) o' r
      → Answers m here o (record { state = t'; room = v' }) o' r
  unfolding answered answer_text
  answers_reply n t' v' o₁ o' r e s x u y f =
      let z : (answered m here).refusal ≡ 0 = sym same_refusal ∙ e in
      let a = call_taken lines m t v own_mid o e in
      let b = call_taken lines m t v own_mid (replicate 16640 0) z in
      let g : Appended o 0 (reply_to m t v own_mid) o₁ n =
      record { text = y ∙ reply_is m t v own_mid o e; next = omega (arith, a.size, (call_bounded lines m t v own_mid o).fits) } in
      let p : t' ≡ (answered m here).state = x ∙ a.state ∙ sym b.state in
      let q : v' ≡ (answered m here).room = u ∙ a.room ∙ sym b.room in
      record { put = chosen_yes _ _ _ _ _ _ _ (eq-eqb _ _ z) (rw b.whole (g ▸ f)); leaves = (λ i. record { state = p i; room = q i }) }

  -- `refused n`
  pub answers_refused : (n : ℕ) (t' : State) (v' : Room) (o₁ o' : List ℕ) (r : ℕ) → (call lines m t v own_mid o).refusal ≡ n → 0 < n
      → t' ≡ (call lines m t v own_mid o).state → v' ≡ (call lines m t v own_mid o).room → o₁ ≡ (call lines m t v own_mid o).reply → Appended o₁ 0 (refused_text n) o' r
      → Answers m here o (record { state = t'; room = v' }) o' r
  unfolding answered answer_text
  answers_refused n t' v' o₁ o' r e h x u y f =
      let z : (call lines m t v own_mid (replicate 16640 0)).refusal ≡ n = sym same_refusal ∙ e in
      let a = refusal_keeps lines m t v own_mid o (λ q. omega arith) in
      let k : (call lines m t v own_mid (replicate 16640 0)).refusal ≢ 0 = λ q. omega arith in
      let b = refusal_keeps lines m t v own_mid (replicate 16640 0) k in
      let p : t' ≡ (answered m here).state = x ∙ a.state ∙ sym b.state in
      let q : v' ≡ (answered m here).room = u ∙ a.room ∙ sym b.room in
      record { put = chosen_no _ _ _ _ _ _ _ (ne_eqb _ _ k) (rw z (rw (y ∙ a.reply) at f)); leaves = (λ i. record { state = p i; room = q i }) }

-- ---- what holds of every answer

-- messages of over 4,096 bytes are answered alike
pub long_alike : (m n : List ℕ) (t : Lent) → 4096 < length m → 4096 < length n → answered m t ≡ answered n t
unfolding answered call pick
long_alike m n t h k =
    rw (ne_eqb (length m) 0 (omega arith), lt-ltb 4096 (length m) h, ne_eqb (length n) 0 (omega arith), lt-ltb 4096 (length n) k)

own_is : is_mid own_mid ≡ true
unfolding opened own_mid
own_is = refl

-- "`refused 1`" is the only refusal, and only of a line of 0 or over 4,096 bytes
pub refused_one : (m : List ℕ) (t : Lent) → ready t ≡ true → (answered m t).refusal ≡ pick (eqb (length m) 0 || ltb 4096 (length m)) 1 0
unfolding answered ready pick
refused_one m t k =
    let b = and_both (state_fits lines t.state) (room_sound t.room) k in
    refusal_is m t.state t.room own_mid (replicate 16640 0) (omega (arith, length-replicate {A = ℕ} 16640 0)) ∙ rw (b.0, b.1, own_is)

-- a reply or `refused n`, with its line end, is no longer than the buffer
refusal_small : (m : List ℕ) (t : State) (v : Room) (own o : List ℕ) → (call lines m t v own o).refusal ≤ 8
unfolding call taken replied written
refusal_small m t v own o =
    pick_ind small _ _ _ (λ e. omega arith) λ w.
    pick_ind small _ _ _ (λ e. omega arith) λ s.
    pick_ind small _ _ _ (λ e. omega arith) λ a.
    pick_ind small _ _ _ (λ e. omega arith) λ b.
    pick_ind small _ _ _ (λ e. omega arith) λ d.
    pick_ind small _ _ _ (λ e. omega arith) (λ e. omega arith)
  where
    small : Called → Type 0
    small c = c.refusal ≤ 8

pub answer_fits : (m : List ℕ) (t : Lent) → length (answer_text (answered m t)) ≤ answer_room
unfolding answered answer_text refused_text
answer_fits m t =
    let c = call lines m t.state t.room own_mid (replicate 16640 0) in
    pick_ind (λ l. length l ≤ answer_room) (eqb c.refusal 0) (take c.size c.reply then (line_end ∷ [])) (refused_text c.refusal)
    (λ e. simp (length_then, length-take) (omega (arith, (call_bounded lines m t.state t.room own_mid (replicate 16640 0)).fits)))
    (λ e. simp length_then (omega (arith, length_decimal c.refusal (omega (arith, refusal_small m t.state t.room own_mid (replicate 16640 0))))))

-- a line leaves a sound table of eight lines, sound blocks and a sound room such ones
pub answered_ready : (m : List ℕ) (t : Lent) → ready t ≡ true → ready (left_by (answered m t)) ≡ true
unfolding answered ready state_fits
answered_ready m t k =
    let a = and_both (state_fits lines t.state) (room_sound t.room) k in
    let c = and_both (eqb (length t.state.table) (words lines) && sound t.state.table) (blocks_are_sound t.state.blocks) a.0 in
    let b = and_both (eqb (length t.state.table) (words lines)) (sound t.state.table) c.0 in
    let o : List ℕ = replicate 16640 0 in
    rw (call_length lines m t.state t.room own_mid o, b.0, call_sound lines m t.state t.room own_mid o b.1, call_blocks_sound lines m t.state t.room own_mid o c.1) (room_keeps lines m t.state t.room own_mid o a.1)

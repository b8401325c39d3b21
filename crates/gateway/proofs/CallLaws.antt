-- The call, turned down or taken.
use Prim.Native.Nat.{ℕ, ◌+◌, ◌-◌, ◌<◌, ◌≤◌}
use mathlib.Core.Path.{◌≡◌, refl, sym, ap, ◌∙◌}
use mathlib.Core.Bool.{Bool, true, false, ◌&&◌, ◌||◌}
use mathlib.Core.List.{List, [], ◌∷◌}
use mathlib.Core.Option.{Option, none, some}
use lib.ListN.{length}
use lib.Dec.{ltb, leb, eqb}
use borrow.Author.Tests.{lt-ltb, le-ltb, leb-true, eq-eqb, ne_eqb}
use native.Mathlib.Omega.{arith}
use Rattle.std.specs.Prelude.{Ok, Err}
use Rattle.base.specs.Pick.{pick}
use Rattle.base.specs.Bytes.{put, ◌then◌}
use Rattle.base.specs.Out.{Appended}
use Rattle.base.proofs.TextLaws.{length_then}
use Rattle.base.proofs.OutLaws.{none as nothing}
use Rattle.base.proofs.TestLaws.{clash, and_both, or_neither}
use Rattle.megaco.specs.Tokens.{is_mid, whole_at, m_id_at}
use Rattle.megaco.specs.Reading.{message_r, sender_of}
use Rattle.megaco.specs.Table.{words, most_lines, sound}
use Rattle.megaco.specs.Blocks.{block_at, with_block, updated, blocks_are_sound}
use Rattle.megaco.specs.State.{State, state}
use Rattle.megaco.specs.Names.{within}
use Rattle.megaco.specs.Reply.{header_text}
use Rattle.megaco.specs.Room.{Room, room, kept_of, room_sound}
use Rattle.megaco.specs.Tree.{Part, request, acknowledge, Message, well_formed, fault400, fault403, fault406}
use Rattle.megaco.specs.Kept.{find}
use Rattle.megaco.specs.Message.{Served, identifier, answered, run_part, run_parts, run_message}
use Rattle.megaco.specs.Call.{state_fits, written, replied, taken, call, is_present, packet}
use Rattle.laws.proofs.Bounds.{text_fits}
use Rattle.run_message.specs.Serves.{Serves}
use Rattle.gateway.specs.Answers.{refusal_number, refusal_of, size_of, Answered, Counted, Replied}
use Rattle.gateway.specs.declared.Refusal.TheVariants.{ReplyTooShort, TableUnsound, RoomUnsound, MidUnfit, MessageUnfit, LinesUnfit}

-- ---- the state

pub state_fits_lem : (lines : ℕ) (t bs : List ℕ) (n : ℕ) (x y : Bool) → n ≡ words lines → length t ≡ n → x ≡ sound t → y ≡ blocks_are_sound bs → (x && y) ≡ state_fits lines (state t bs)
unfolding state_fits
state_fits_lem lines t bs n x y e l f g = rw (eq-eqb (length t) (words lines) (l ∙ e), f, g)

pub wrong_size : (lines : ℕ) (t bs : List ℕ) (n : ℕ) → n ≡ words lines → (length t ≡ n → ⊥) → false ≡ state_fits lines (state t bs)
unfolding state_fits
wrong_size lines t bs n e f = rw (ne_eqb (length t) (words lines) (λ q. f (q ∙ sym e)))

-- ---- a call

pub unfit_lines : (lines : ℕ) (m t bs w b own o : List ℕ) (x : Bool) → x ≡ within lines most_lines → x ≡ false → Answered (call lines m (state t bs) (room w b) own o) (state t bs) (room w b) o (Err LinesUnfit)
unfolding call refusal_of refusal_number size_of pick
unfit_lines lines m t bs w b own o x e f = rw (sym e ∙ f) (record { refusal = refl; size = refl; state = refl; room = refl; reply = refl })

module _ (lines : ℕ) (m t bs w b own o : List ℕ) (fit : within lines most_lines ≡ true) where
  pub short_reply : length o < 16640 → Answered (call lines m (state t bs) (room w b) own o) (state t bs) (room w b) o (Err ReplyTooShort)
  unfolding call refusal_of refusal_number size_of pick
  short_reply h = rw (fit, lt-ltb (length o) 16640 h) (record { refusal = refl; size = refl; state = refl; room = refl; reply = refl })

  module _ (h : 16640 ≤ length o) where
    pub unfit_state : (x : Bool) → x ≡ state_fits lines (state t bs) → x ≡ false → Answered (call lines m (state t bs) (room w b) own o) (state t bs) (room w b) o (Err TableUnsound)
    unfolding call refusal_of refusal_number size_of pick
    unfit_state x e f = rw (fit, le-ltb (length o) 16640 h, sym e ∙ f) (record { refusal = refl; size = refl; state = refl; room = refl; reply = refl })

    module _ (x : Bool) (e : x ≡ state_fits lines (state t bs)) (f : x ≡ true) where
      pub unsound_room : (v : Bool) → v ≡ room_sound (room w b) → v ≡ false → Answered (call lines m (state t bs) (room w b) own o) (state t bs) (room w b) o (Err RoomUnsound)
      unfolding call refusal_of refusal_number size_of pick
      unsound_room v g k = rw (fit, le-ltb (length o) 16640 h, sym e ∙ f, sym g ∙ k) (record { refusal = refl; size = refl; state = refl; room = refl; reply = refl })

      module _ (v : Bool) (r : v ≡ room_sound (room w b)) (s : v ≡ true) where
        pub unfit_mid : (y : Bool) → y ≡ is_mid own → y ≡ false → Answered (call lines m (state t bs) (room w b) own o) (state t bs) (room w b) o (Err MidUnfit)
        unfolding call refusal_of refusal_number size_of pick
        unfit_mid y g k = rw (fit, le-ltb (length o) 16640 h, sym e ∙ f, sym r ∙ s, sym g ∙ k) (record { refusal = refl; size = refl; state = refl; room = refl; reply = refl })

        module _ (y : Bool) (g : y ≡ is_mid own) (k : y ≡ true) where
          pub unfit_message : (eqb (length m) 0 || ltb 4096 (length m)) ≡ true → Answered (call lines m (state t bs) (room w b) own o) (state t bs) (room w b) o (Err MessageUnfit)
          unfolding call refusal_of refusal_number size_of pick
          unfit_message z = rw (fit, le-ltb (length o) 16640 h, sym e ∙ f, sym r ∙ s, sym g ∙ k, z) (record { refusal = refl; size = refl; state = refl; room = refl; reply = refl })

          taken_is : (eqb (length m) 0 || ltb 4096 (length m)) ≡ false → call lines m (state t bs) (room w b) own o ≡ taken m (state t bs) (room w b) own o
          unfolding call pick
          taken_is z = rw (fit, le-ltb (length o) 16640 h, sym e ∙ f, sym r ∙ s, sym g ∙ k, z)

          no_refusal : 0 ≡ (taken m (state t bs) (room w b) own o).refusal
          unfolding taken replied written
          no_refusal = refl

          pub is_taken : (eqb (length m) 0 || ltb 4096 (length m)) ≡ false → (t' : State) (r' : Room) (o' : List ℕ) (n₂ : ℕ) → Replied (taken m (state t bs) (room w b) own o) t' r' o' n₂
              → Answered (call lines m (state t bs) (room w b) own o) t' r' o' (Ok n₂)
          unfolding refusal_of size_of
          is_taken z t' r' o' n₂ p = rw (taken_is z) (record { refusal = no_refusal; size = p.size; state = p.state; room = p.room; reply = p.reply })

-- ---- a message that is taken

put_none : (o : List ℕ) → put o 0 [] ≡ o
unfolding put
put_none [] = refl
put_none (y ∷ o) = refl

-- a text put before another that stands already
put_front : (o a b : List ℕ) → put (put o (length a) b) 0 a ≡ put o 0 (a then b)
unfolding put ◌then◌
put_front [] a b = refl
put_front (y ∷ o) [] b = put_none (put (y ∷ o) 0 b)
put_front (y ∷ o) (x ∷ a) b = ap (λ (l : List ℕ). x ∷ l) (put_front o a b)

-- where there is no reply there is no text
part_untold : (m : List ℕ) (p : Part) (st : State) (r : Room) → (run_part m p st r).told ≡ false → (run_part m p st r).text ≡ []
unfolding run_part answered
part_untold m (acknowledge ks) st r e = refl
part_untold m (request x) st r e = by (find m (identifier x) (kept_of r)) e
  where
    by : (o : Option (List ℕ)) → (answered m x st r o).told ≡ false → (answered m x st r o).text ≡ []
    by none f = absurd (clash f)
    by (some y) f = absurd (clash f)

parts_untold : (m : List ℕ) (ps : List Part) (st : State) (r : Room) → (run_parts m ps st r).told ≡ false → (run_parts m ps st r).text ≡ []
unfolding run_parts ◌then◌
parts_untold m [] st r e = refl
parts_untold m (p ∷ ps) st r e =
    let y = run_part m p st r in
    let z = run_parts m ps y.state y.room in
    let q = or_neither y.told z.told e in
    rw (part_untold m p st r q.0, parts_untold m ps y.state y.room q.1)

message_untold : (m : List ℕ) (x : Message) (st : State) (r : Room) → (run_message m x st r).told ≡ false → (run_message m x st r).text ≡ []
unfolding run_message
message_untold m (well_formed ps) st r e = parts_untold m ps st r e
message_untold m fault400 st r e = absurd (clash e)
message_untold m (fault403 id) st r e = absurd (clash e)
message_untold m fault406 st r e = absurd (clash e)

header_length : (own : List ℕ) → length (header_text own) ≡ length own + 5
unfolding header_text
header_length own = simp length_then (omega arith)

module _ (m t bs w b own o : List ℕ) (safe : room_sound (room w b) ≡ true) (short : length own ≤ 64) (long : 16640 ≤ length o)
    (t' : State) (r' : Room) (o₁ : List ℕ) (q : ℕ) (told : Bool)
    (z : Serves (run_message (sender_of m) (message_r m) (state t bs) (room w b)) o (length own + 5) t' r' o₁ q told) where
  abbrev x : Served
  x = run_message (sender_of m) (message_r m) (state t bs) (room w b)

  pub header_last : told ≡ true → (o₂ : List ℕ) (n : ℕ) → Appended o₁ 0 (header_text own) o₂ n → Replied (taken m (state t bs) (room w b) own o) t' r' o₂ q
  unfolding taken replied written pick
  header_last e o₂ n a =
      let d : x.told ≡ true = sym z.told_is ∙ e in
      let h : length own + 5 ≡ length (header_text own) = sym (header_length own) in
      let f : length (header_text own then x.text) ≤ 16640 = text_fits m (state t bs) (room w b) own safe short in
      let k : q ≡ length (header_text own then x.text) = omega (arith, z.text.next, length_then (header_text own) x.text) in
      let g : o₂ ≡ put o 0 (header_text own then x.text) = a.text ∙ rw (z.text.text, h) (put_front o (header_text own) x.text) in
      rw d (record { size = k; state = z.state; room = z.room; reply = g })

  -- a message of acknowledgements alone
  pub no_reply : told ≡ false → Replied (taken m (state t bs) (room w b) own o) t' r' o₁ 0
  unfolding taken replied written pick
  no_reply e =
      let d : x.told ≡ false = sym z.told_is ∙ e in
      let n : x.text ≡ [] = message_untold (sender_of m) (message_r m) (state t bs) (room w b) d in
      rw d (record { size = refl; state = z.state; room = z.room; reply = z.text.text ∙ rw n (sym (nothing o (length own + 5)).text) ∙ sym (put_none o) })

pub fitted_by : (x : Bool) (lines : ℕ) → x ≡ within lines most_lines → x ≡ true → within lines most_lines ≡ true
fitted_by x lines e f = sym e ∙ f

pub sound_by : (x : Bool) (lines : ℕ) (t bs : List ℕ) → x ≡ state_fits lines (state t bs) → x ≡ true → sound t ≡ true
unfolding state_fits
sound_by x lines t bs e f = (and_both (eqb (length t) (words lines)) (sound t) (and_both (eqb (length t) (words lines) && sound t) (blocks_are_sound bs) (sym e ∙ f)).0).1

pub room_by : (x : Bool) (w b : List ℕ) → x ≡ room_sound (room w b) → x ≡ true → room_sound (room w b) ≡ true
room_by x w b e f = sym e ∙ f

pub own_by : (own : List ℕ) (y : Bool) → y ≡ is_mid own → y ≡ true → length own ≤ 64
unfolding is_mid
own_by own y g k = leb-true (length own) 64 (and_both (leb (length own) 64) (whole_at (m_id_at own 0) (length own)) (sym g ∙ k)).0

-- ---- a packet

pub packet_8 : (lines : ℕ) (t bs : List ℕ) (n arrival stamp : ℕ) (x : Bool) → x ≡ within lines most_lines → x ≡ false → Counted (packet lines (state t bs) n arrival stamp) bs 8
unfolding packet pick
packet_8 lines t bs n arrival stamp x e f = rw (sym e ∙ f) (record { refusal = refl; blocks = refl })

module _ (lines : ℕ) (t bs : List ℕ) (n arrival stamp : ℕ) (w : within lines most_lines ≡ true) (y : Bool) (g : y ≡ state_fits lines (state t bs)) where
  pub packet_2 : y ≡ false → Counted (packet lines (state t bs) n arrival stamp) bs 2
  unfolding packet pick
  packet_2 h = rw (w, sym g ∙ h) (record { refusal = refl; blocks = refl })

  module _ (h : y ≡ true) (z : Bool) (i : z ≡ is_present lines n t) where
    pub packet_9 : z ≡ false → Counted (packet lines (state t bs) n arrival stamp) bs 9
    unfolding packet pick
    packet_9 j = rw (w, sym g ∙ h, sym i ∙ j) (record { refusal = refl; blocks = refl })

    pub packet_counts : (k : ℕ) (bs' : List ℕ) → z ≡ true → k ≡ n - 1 → bs' ≡ with_block k (updated (block_at k bs) arrival stamp) bs → Counted (packet lines (state t bs) n arrival stamp) bs' 0
    unfolding packet pick
    packet_counts k bs' j l r = rw (w, sym g ∙ h, sym i ∙ j) (record { refusal = refl; blocks = r ∙ ap (λ (a : ℕ). with_block a (updated (block_at a bs) arrival stamp) bs) l })

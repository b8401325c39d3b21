-- A sound room stays sound when replies are dropped, and what is kept is then what the list of kept replies says.
use Prim.Native.Nat.{ℕ, zero, suc, ◌+◌, ◌-◌, ◌≤◌}
use mathlib.Core.Path.{◌≡◌, refl, sym, ap, ◌∙◌, subst}
use mathlib.Core.Bool.{Bool, true, false}
use mathlib.Core.List.{List, [], ◌∷◌, ◌++◌, map}
use mathlib.Core.Option.{none}
use native.Mathlib.Omega.{arith}
use lib.ListN.{length, replicate, length-append, length-take, length-replicate}
use borrow.Author.Tests.{ne_eqb}
use Rattle.base.specs.Pick.{pick}
use Rattle.base.specs.Lists.{has}
use Rattle.base.specs.Bytes.{put}
use Rattle.base.proofs.OutLaws.{length_put, take_put}
use Rattle.megaco.specs.Kept.{Kept, kept_under, find, without}
use Rattle.megaco.specs.Room.{Room, room, row_of, slot_id, slot_sender, slot_reply, slot_of, held_in, kept_of, room_sound, left, closed, drop_in}
use Rattle.laws.proofs.KeptLaws.{find_without}
use Rattle.laws.proofs.RoomFree.{has_cons, has_both}
use Rattle.laws.proofs.RoomWhole.{Slot, Held, free, held, Row, Whole, sound_whole, whole_sound, row_told}
use Rattle.laws.proofs.RoomParts.{word_behind}

module _ (r : Room) (q : Kept → Bool) where
  -- zeros tell nothing
  left_zeros : (h : List ℕ) (j : ℕ) → Held r h → left r q (h ++ replicate j 0) ≡ left r q h
  unfolding left pick
  left_zeros [] zero free = refl
  left_zeros [] (suc j) free = refl
  left_zeros (n ∷ h) j (held S a b H) = rw (ne_eqb n 0 (λ e. omega (arith, S.low)), left_zeros h j H)

  -- slots u with replies ks, left of the slots h
  record Left (h u : List ℕ) (ks : List Kept) : Type 0 where
    pub held : Held r u
    pub kept_under : map (slot_of r) u ≡ ks
    pub few : length u ≤ length h
    pub once : (n : ℕ) → has n h ≡ false → has n u ≡ false

  left_is : (h : List ℕ) → Held r h → Left h (left r q h) (without q (map (slot_of r) h))
  unfolding left without pick
  left_is [] free = record { held = free; kept_under = refl; few = omega arith; once = λ n e. e }
  left_is (n ∷ h) (held S a b H) = rw (ne_eqb n 0 (λ e. omega (arith, S.low))) (by (q (slot_of r n)) (left_is h H))
    where
      by : (z : Bool) → Left h (left r q h) (without q (map (slot_of r) h))
          → Left (n ∷ h) (pick z (left r q h) (n ∷ left r q h)) (pick z (without q (map (slot_of r) h)) (slot_of r n ∷ without q (map (slot_of r) h)))
      by true L = record { held = L.held; kept_under = L.kept_under; few = omega (arith, L.few); once = λ m e. L.once m (has_both m n h e).1 }
      by false L =
          record {
            held = held S (L.once n a) (rw L.kept_under (find_without (slot_sender r n) (slot_id r n) q (map (slot_of r) h) b)) L.held;
            kept_under = ap (λ (l : List Kept). slot_of r n ∷ l) L.kept_under;
            few = omega (arith, L.few);
            once = λ m e. let p = has_both m n h e in has_cons m n (left r q h) p.0 (L.once m p.1);
          }

-- ---- slots do not see the row

module _ (r : Room) (l : List ℕ) (s : length l ≤ 16) where
  abbrev after : Room
  after = room (put r.words 0 l) r.bytes

  slot_same : (n : ℕ) → 1 ≤ n → slot_of after n ≡ slot_of r n
  unfolding slot_id slot_sender slot_reply
  slot_same n h =
      rw (word_behind r.words l (15 + n) (omega arith), word_behind r.words l (31 + n) (omega arith), word_behind r.words l (47 + n) (omega arith))

  same_slot : (n : ℕ) → Slot r n → Slot after n
  same_slot n S =
      let h : 1 ≤ n = S.low in
      record {
        low = h;
        high = S.high;
        sender = omega (arith, S.sender, word_behind r.words l (31 + n) (omega arith));
        reply = omega (arith, S.reply, word_behind r.words l (47 + n) (omega arith));
      }

  map_same : (u : List ℕ) → Held r u → map (slot_of after) u ≡ map (slot_of r) u
  map_same [] free = refl
  map_same (n ∷ u) (held S a b H) = let x = slot_same n S.low in let y = map_same u H in λ i. x i ∷ y i

  held_same : (u : List ℕ) → Held r u → Held after u
  held_same [] free = free
  held_same (n ∷ u) (held S a b H) =
      let x = slot_same n S.low in
      held (same_slot n S) a
      (subst (λ (y : Kept). find y.sender y.id (map (slot_of after) u) ≡ none) (sym x) (rw (map_same u H) b))
      (held_same u H)

-- ---- "K .. drops that sender's replies": the room's list

module _ (q : Kept → Bool) (r : Room) (sound : room_sound r ≡ true) where
  abbrev h : List ℕ
  h = held_in r.words

  W : Whole r
  W = sound_whole r sound

  abbrev u : List ℕ
  u = left r q (row_of r)

  L : Left r q h u (without q (kept_of r))
  unfolding kept_of
  L = rw (ap (left r q) W.row.line ∙ left_zeros r q h (length (row_of r) - length h) W.row.held) (left_is r q h W.row.held)

  row_16 : length (row_of r) ≡ 16
  row_16 = omega (arith, length-take 16 r.words, W.words)

  few : length u ≤ 16
  few =
      let e : length (row_of r) ≡ length h + (length (row_of r) - length h) =
      ap length W.row.line ∙ length-append h (replicate (length (row_of r) - length h) 0) ∙ ap (λ (x : ℕ). length h + x) (length-replicate {A = ℕ} (length (row_of r) - length h) 0) in
      omega (arith, row_16, L.few)

  whole : length (closed u) ≡ 16
  unfolding closed
  whole = length-append u (replicate (16 - length u) 0) ∙ ap (λ (x : ℕ). length u + x) (length-replicate {A = ℕ} (16 - length u) 0) ∙ omega (arith, few)

  abbrev left_over : Room
  left_over = after r (closed u) (omega (arith, whole))

  row_closed : row_of left_over ≡ closed u
  row_closed = rw whole at (take_put r.words (closed u) (omega (arith, whole, W.words)))

  row_left : Row left_over (row_of left_over) u
  unfolding closed
  row_left =
      let z : 16 - length u ≡ length (row_of left_over) - length u = omega (arith, ap length row_closed, whole) in
      record { line = row_closed ∙ ap (λ (x : ℕ). u ++ replicate x 0) z; held = held_same r (closed u) (omega (arith, whole)) u L.held }

  pub drop_sound : room_sound (drop_in q r) ≡ true
  unfolding drop_in
  drop_sound = whole_sound left_over u (length_put r.words 0 (closed u) ∙ W.words) W.bytes row_left

  pub drop_kept : kept_of (drop_in q r) ≡ without q (kept_of r)
  unfolding drop_in kept_of
  drop_kept = ap (map (slot_of left_over)) (row_told left_over u row_left) ∙ map_same r (closed u) (omega (arith, whole)) u L.held ∙ L.kept_under

-- A sound room stays sound when a reply is kept, and what is kept is then what the list of kept replies says.
use Prim.Native.Nat.{ℕ, suc, ◌+◌, ◌*◌, ◌-◌, ◌≤◌, ◌<◌}
use mathlib.Core.Path.{◌≡◌, refl, sym, ap, ◌∙◌, subst}
use mathlib.Core.Bool.{Bool, true, false}
use mathlib.Core.List.{List, [], ◌∷◌, ◌++◌, map}
use mathlib.Core.Option.{none}
use native.Mathlib.Omega.{arith}
use lib.Dec.{ltb, leb}
use lib.ListN.{length, get_or, take, drop, set, replicate, length-append, length-take, length-set, length-replicate, length-map}
use lib.Seq.{get_or-set_same, get_or-set_other, take-set-le, get_or-take}
use borrow.Author.Tests.{ltb-true, ltb-false, leb-true, leb-false}
use Rattle.base.specs.Pick.{pick}
use Rattle.base.specs.Lists.{has}
use Rattle.base.specs.Bytes.{put}
use Rattle.base.proofs.OutLaws.{length_put, drop_put}
use Rattle.megaco.specs.Kept.{Kept, kept_under, find, youngest, keep}
use Rattle.megaco.specs.Room.{Room, room, row_of, slot_place, slot_id, slot_sender, slot_reply, slot_of, held_in, kept_of, room_sound, lowest_free, slot_for, lined, noted, stored, keep_at, keep_in}
use Rattle.laws.proofs.KeptLaws.{under_other, find_cons, find_both, find_drop, find_append}
use Rattle.laws.proofs.RoomFree.{has_cons, has_both, has_append, free_slot}
use Rattle.laws.proofs.RoomWhole.{Slot, Held, free, held, Row, Whole, sound_whole, whole_sound, row_told}
use Rattle.laws.proofs.RoomParts.{part_own, part_before, word_behind, take_over, drop_zeros, map_append, map_drop}

-- ---- the words of a slot

module _ (n id a b : ℕ) (w : List ℕ) where
  abbrev w₁ : List ℕ
  w₁ = set w (15 + n) id

  abbrev w₂ : List ℕ
  w₂ = set w₁ (31 + n) a

  noted_other : (i : ℕ) → (i ≡ 15 + n → ⊥) → (i ≡ 31 + n → ⊥) → (i ≡ 47 + n → ⊥) → get_or (noted n id a b w) i 0 ≡ get_or w i 0
  unfolding noted
  noted_other i x y z = get_or-set_other w₂ (47 + n) i b 0 z ∙ get_or-set_other w₁ (31 + n) i a 0 y ∙ get_or-set_other w (15 + n) i id 0 x

  noted_long : length (noted n id a b w) ≡ length w
  unfolding noted
  noted_long = length-set w₂ (47 + n) b ∙ length-set w₁ (31 + n) a ∙ length-set w (15 + n) id

  noted_row : 1 ≤ n → take 16 (noted n id a b w) ≡ take 16 w
  unfolding noted
  noted_row h = take-set-le 16 w₂ (47 + n) b (omega arith) ∙ take-set-le 16 w₁ (31 + n) a (omega arith) ∙ take-set-le 16 w (15 + n) id (omega arith)

  module _ (l : length w ≡ 64) (h : n ≤ 16) where
    noted_id : get_or (noted n id a b w) (15 + n) 0 ≡ id
    unfolding noted
    noted_id =
        get_or-set_other w₂ (47 + n) (15 + n) b 0 (λ e. omega arith) ∙ get_or-set_other w₁ (31 + n) (15 + n) a 0 (λ e. omega arith)
        ∙ get_or-set_same w (15 + n) id 0 (omega arith)

    noted_sender : get_or (noted n id a b w) (31 + n) 0 ≡ a
    unfolding noted
    noted_sender = get_or-set_other w₂ (47 + n) (31 + n) b 0 (λ e. omega arith) ∙ get_or-set_same w₁ (31 + n) a 0 (omega (arith, length-set w (15 + n) id))

    noted_reply : get_or (noted n id a b w) (47 + n) 0 ≡ b
    unfolding noted
    noted_reply = get_or-set_same w₂ (47 + n) b 0 (omega (arith, length-set w₁ (31 + n) a, length-set w (15 + n) id))

-- ---- a reply put into slot n, told last behind the slots t

module _ (r : Room) (n : ℕ) (k : Kept) (t : List ℕ) (low : 1 ≤ n) (high : n ≤ 16) (w : length r.words ≡ 64) (b : length r.bytes ≡ 33920) (s : length t ≤ 15)
    (f : length k.sender ≤ 72) (g : length k.reply ≤ 2048) where
  abbrev after : Room
  after =
      room (noted n k.id (length k.sender) (length k.reply) (put r.words 0 (t ++ (n ∷ [])))) (stored n k.sender k.reply r.bytes)

  line_long : length (t ++ (n ∷ [])) ≡ length t + 1
  line_long = length-append t (n ∷ [])

  abbrev line : List ℕ
  line = put r.words 0 (t ++ (n ∷ []))

  word_other : (i : ℕ) → 16 ≤ i → (i ≡ 15 + n → ⊥) → (i ≡ 31 + n → ⊥) → (i ≡ 47 + n → ⊥) → get_or after.words i 0 ≡ get_or r.words i 0
  word_other i h x y z =
      noted_other n k.id (length k.sender) (length k.reply) line i x y z ∙ word_behind r.words (t ++ (n ∷ [])) i (omega (arith, line_long))

  -- a part of another slot
  part_other : (m a s : ℕ) → 1 ≤ m → m ≤ 16 → (m ≡ n → ⊥) → slot_place m ≤ a → a + s ≤ slot_place m + 2120 → take s (drop a after.bytes) ≡ take s (drop a r.bytes)
  unfolding stored slot_place
  part_other m a s l h e p q = by (ltb m n) refl
    where
      by : (z : Bool) → ltb m n ≡ z → take s (drop a (put (put r.bytes (2120 * (n - 1)) k.sender) (2120 * (n - 1) + 72) k.reply)) ≡ take s (drop a r.bytes)
      by true x =
          let y : m < n = ltb-true m n x in
          part_before (put r.bytes (2120 * (n - 1)) k.sender) (2120 * (n - 1) + 72) k.reply a s (omega arith)
          ∙ part_before r.bytes (2120 * (n - 1)) k.sender a s (omega arith)
      by false x =
          let y : n < m = omega (arith, ltb-false m n x, e) in
          ap (take s) (drop_put (put r.bytes (2120 * (n - 1)) k.sender) (2120 * (n - 1) + 72) k.reply a (omega arith)
          ∙ drop_put r.bytes (2120 * (n - 1)) k.sender a (omega arith))

  slot_other : (m : ℕ) → Slot r m → (m ≡ n → ⊥) → slot_of after m ≡ slot_of r m
  unfolding slot_id slot_sender slot_reply
  slot_other m S e =
      let l : 1 ≤ m = S.low in
      let h : m ≤ 16 = S.high in
      let x : get_or after.words (15 + m) 0 ≡ get_or r.words (15 + m) 0 = word_other (15 + m) (omega arith) (λ z. e (omega arith)) (λ z. omega arith) (λ z. omega arith) in
      let y : get_or after.words (31 + m) 0 ≡ get_or r.words (31 + m) 0 = word_other (31 + m) (omega arith) (λ z. omega arith) (λ z. e (omega arith)) (λ z. omega arith) in
      let z : get_or after.words (47 + m) 0 ≡ get_or r.words (47 + m) 0 = word_other (47 + m) (omega arith) (λ z. omega arith) (λ z. omega arith) (λ z. e (omega arith)) in
      rw (
        x,
        y,
        z,
        part_other m (slot_place m) (get_or r.words (31 + m) 0) l h e (omega arith) (omega (arith, S.sender)),
        part_other m (slot_place m + 72) (get_or r.words (47 + m) 0) l h e (omega arith) (omega (arith, S.reply)),
      )

  line_words : length line ≡ 64
  line_words = length_put r.words 0 (t ++ (n ∷ [])) ∙ w

  -- the slot itself
  id_own : slot_id after n ≡ k.id
  unfolding slot_id
  id_own = noted_id n k.id (length k.sender) (length k.reply) line line_words high

  sender_own : slot_sender after n ≡ k.sender
  unfolding slot_sender stored slot_place
  sender_own =
      let e = noted_sender n k.id (length k.sender) (length k.reply) line line_words high in
      let p : ℕ = 2120 * (n - 1) in
      rw e (part_before (put r.bytes p k.sender) (p + 72) k.reply p (length k.sender) (omega arith) ∙ part_own r.bytes p k.sender (omega arith))

  reply_own : slot_reply after n ≡ k.reply
  unfolding slot_reply stored slot_place
  reply_own =
      let e = noted_reply n k.id (length k.sender) (length k.reply) line line_words high in
      let p : ℕ = 2120 * (n - 1) in
      rw e (part_own (put r.bytes p k.sender) (p + 72) k.reply (omega (arith, length_put r.bytes p k.sender)))

  slot_own : slot_of after n ≡ k
  slot_own = λ i. kept_under (sender_own i) (id_own i) (reply_own i)

  own_slot : Slot after n
  own_slot =
      record {
        low = low;
        high = high;
        sender = omega (arith, noted_sender n k.id (length k.sender) (length k.reply) line line_words high);
        reply = omega (arith, noted_reply n k.id (length k.sender) (length k.reply) line line_words high);
      }

  other_slot : (m : ℕ) → Slot r m → (m ≡ n → ⊥) → Slot after m
  other_slot m S e =
      let l : 1 ≤ m = S.low in
      let h : m ≤ 16 = S.high in
      record {
        low = l;
        high = h;
        sender = omega (arith, S.sender, word_other (31 + m) (omega arith) (λ z. omega arith) (λ z. e (omega arith)) (λ z. omega arith));
        reply = omega (arith, S.reply, word_other (47 + m) (omega arith) (λ z. omega arith) (λ z. omega arith) (λ z. e (omega arith)));
      }

  -- the others and then this one
  map_other : (u : List ℕ) → Held r u → has n u ≡ false → map (slot_of after) u ≡ map (slot_of r) u
  map_other [] free e = refl
  map_other (m ∷ u) (held S a c H) e =
      let p = has_both n m u e in
      let x = slot_other m S p.0 in
      let y = map_other u H p.1 in
      λ i. x i ∷ y i

  map_all : (u : List ℕ) → Held r u → has n u ≡ false → map (slot_of after) (u ++ (n ∷ [])) ≡ map (slot_of r) u ++ (k ∷ [])
  map_all u H e =
      let x = map_other u H e in
      let y = slot_own in
      map_append (slot_of after) u (n ∷ []) ∙ (λ i. x i ++ (y i ∷ []))

  held_all : (u : List ℕ) → Held r u → has n u ≡ false → find k.sender k.id (map (slot_of r) u) ≡ none → Held after (u ++ (n ∷ []))
  unfolding has find
  held_all [] free e d = held own_slot refl refl free
  held_all (m ∷ u) (held S a c H) e d =
      let p = has_both n m u e in
      let q = find_both k.sender k.id (slot_of r m) (map (slot_of r) u) d in
      let x = slot_other m S p.0 in
      let z : find (slot_sender r m) (slot_id r m) (map (slot_of after) (u ++ (n ∷ []))) ≡ none =
      rw (map_all u H p.1) (find_append (slot_sender r m) (slot_id r m) (map (slot_of r) u) (k ∷ []) c
      (find_cons (slot_sender r m) (slot_id r m) k [] (under_other (slot_of r m) k q.0) refl)) in
      held (other_slot m S p.0) (has_append m u (n ∷ []) a (has_cons m n [] (λ y. p.0 (sym y)) refl))
      (subst (λ (y : Kept). find y.sender y.id (map (slot_of after) (u ++ (n ∷ []))) ≡ none) (sym x) z)
      (held_all u H p.1 q.1)

  after_bytes : length after.bytes ≡ 33920
  unfolding stored
  after_bytes = length_put _ (slot_place n + 72) k.reply ∙ length_put r.bytes (slot_place n) k.sender ∙ b

  after_words : length after.words ≡ 64
  after_words = noted_long n k.id (length k.sender) (length k.reply) line ∙ line_words

  module _ (h : List ℕ) (j : ℕ) (e : row_of r ≡ h ++ replicate j 0) (d : length h ≤ length t + 1) (H : Held r t) (o : has n t ≡ false) (q : find k.sender k.id (map (slot_of r) t) ≡ none) where
    after_row : Row after (row_of after) (t ++ (n ∷ []))
    after_row =
        let l : List ℕ = t ++ (n ∷ []) in
        let a : row_of after ≡ l ++ replicate (length h + j - length l) 0 =
        noted_row n k.id (length k.sender) (length k.reply) line low ∙ take_over 16 r.words l (omega (arith, line_long)) (omega arith)
        ∙ ap (λ (x : List ℕ). l ++ drop (length l) x) e ∙ ap (λ (x : List ℕ). l ++ x) (drop_zeros h j (length l) (omega (arith, line_long))) in
        let c : length (row_of r) ≡ length h + j = ap length e ∙ length-append h (replicate j 0) ∙ ap (λ (x : ℕ). length h + x) (length-replicate {A = ℕ} j 0) in
        let x : length (row_of r) ≡ 16 = omega (arith, length-take 16 r.words) in
        let y : length (row_of after) ≡ 16 = omega (arith, length-take 16 after.words, after_words) in
        let z : length h + j - length l ≡ length (row_of after) - length l = omega arith in
        record { line = a ∙ ap (λ (x : ℕ). l ++ replicate x 0) z; held = held_all t H o q }

    after_sound : room_sound after ≡ true
    after_sound = whole_sound after (t ++ (n ∷ [])) after_words after_bytes after_row

    after_kept : kept_of after ≡ map (slot_of r) t ++ (k ∷ [])
    unfolding kept_of
    after_kept = ap (map (slot_of after)) (row_told after (t ++ (n ∷ [])) after_row) ∙ map_all t H o

-- ---- the slot that is used, and those told before it

record Fresh (r : Room) (h t : List ℕ) (n : ℕ) : Type 0 where
  pub low : 1 ≤ n
  pub high : n ≤ 16
  pub once : has n t ≡ false
  pub held : Held r t
  pub short : length t ≤ 15
  pub reach : length h ≤ length t + 1

fresh : (r : Room) (h : List ℕ) (j : ℕ) → Held r h → length h ≤ 16 → row_of r ≡ h ++ replicate j 0
    → Fresh r h (youngest 15 h) (pick (leb 16 (length h)) (get_or r.words 0 0) (lowest_free 16 1 (row_of r)))
unfolding youngest pick
fresh r [] j free l e =
    let p = free_slot [] j (omega arith) in
    rw e (record { low = p.0; high = p.1; once = p.2; held = free; short = omega arith; reach = omega arith })
fresh r (x ∷ u) j (held S a c H) l e = by (leb 16 (suc (length u))) refl
  where
    first : get_or r.words 0 0 ≡ x
    first = sym (get_or-take 16 r.words 0 0 (omega arith)) ∙ ap (λ (y : List ℕ). get_or y 0 0) e

    by : (z : Bool) → leb 16 (suc (length u)) ≡ z
        → Fresh r (x ∷ u) (drop (suc (length u) - 15) (x ∷ u)) (pick z (get_or r.words 0 0) (lowest_free 16 1 (row_of r)))
    by true f =
        let d : suc (length u) - 15 ≡ 1 = omega (arith, leb-true 16 (suc (length u)) f) in
        rw (d, first) (record { low = S.low; high = S.high; once = a; held = H; short = omega arith; reach = omega arith })
    by false f =
        let g : suc (length u) < 16 = leb-false 16 (suc (length u)) f in
        let d : suc (length u) - 15 ≡ 0 = omega arith in
        let p = free_slot (x ∷ u) j g in
        rw (d, e) (record { low = p.0; high = p.1; once = p.2; held = held S a c H; short = omega arith; reach = omega arith })

map_youngest : {A B : Type 0} (f : A → B) (n : ℕ) (xs : List A) → map f (youngest n xs) ≡ youngest n (map f xs)
unfolding youngest
map_youngest f n xs = map_drop f (length xs - n) xs ∙ ap (λ (d : ℕ). drop (d - n) (map f xs)) (sym (length-map xs f))

-- ---- "Keep the last 16 replies": the room's list

-- a reply that may be kept: of at most 2,048 bytes, with a mId of at most 72, under a pair that is not kept
pub record Keepable (k : Kept) (ks : List Kept) : Type 0 where
  pub sender : length k.sender ≤ 72
  pub reply : length k.reply ≤ 2048
  pub new : find k.sender k.id ks ≡ none

module _ (k : Kept) (r : Room) (sound : room_sound r ≡ true) (K : Keepable k (kept_of r)) where
  abbrev h : List ℕ
  h = held_in r.words

  W : Whole r
  W = sound_whole r sound

  row_16 : length (row_of r) ≡ 16
  row_16 = omega (arith, length-take 16 r.words, W.words)

  few : length h ≤ 16
  few =
      let e : length (row_of r) ≡ length h + (length (row_of r) - length h) =
      ap length W.row.line ∙ length-append h (replicate (length (row_of r) - length h) 0) ∙ ap (λ (x : ℕ). length h + x) (length-replicate {A = ℕ} (length (row_of r) - length h) 0) in
      omega (arith, row_16)

  F : Fresh r h (youngest 15 h) (slot_for r.words)
  unfolding slot_for
  F = fresh r h (length (row_of r) - length h) W.row.held few W.row.line

  told : find k.sender k.id (map (slot_of r) (youngest 15 h)) ≡ none
  unfolding kept_of youngest
  told = rw (map_youngest (slot_of r) 15 h) (find_drop k.sender k.id (length (map (slot_of r) h) - 15) (map (slot_of r) h) K.new)

  youngest_kept : map (slot_of r) (youngest 15 h) ≡ youngest 15 (kept_of r)
  unfolding kept_of
  youngest_kept = map_youngest (slot_of r) 15 h

  is_after : keep_in k r ≡ after r (slot_for r.words) k (youngest 15 h) F.low F.high W.words W.bytes F.short K.sender K.reply
  unfolding keep_in keep_at lined
  is_after = refl

  pub keep_sound : room_sound (keep_in k r) ≡ true
  keep_sound =
      rw is_after (after_sound r (slot_for r.words) k (youngest 15 h) F.low F.high W.words W.bytes F.short K.sender K.reply
      h (length (row_of r) - length h) W.row.line F.reach F.held F.once told)

  pub keep_kept : kept_of (keep_in k r) ≡ keep k (kept_of r)
  unfolding keep
  keep_kept =
      rw is_after (after_kept r (slot_for r.words) k (youngest 15 h) F.low F.high W.words W.bytes F.short K.sender K.reply
      h (length (row_of r) - length h) W.row.line F.reach F.held F.once told) ∙ ap (λ (l : List Kept). l ++ (k ∷ [])) youngest_kept

-- The laws of keep and drop, in the form in which `search` uses them.
use Prim.Native.Nat.{ℕ, zero, suc, ◌+◌, ◌-◌, ◌<◌, ◌≤◌, min, max}
use mathlib.Core.Path.{◌≡◌, refl, sym, ap, ◌∙◌}
use mathlib.Core.Bool.{Bool, true, false}
use mathlib.Core.List.{List, [], ◌∷◌, ◌++◌, append_assoc, append-nil}
use native.Mathlib.Numerals.{add-one}
use native.Mathlib.Omega.{arith}
use lib.Dec.{eqb}
use lib.ListN.{length, get_or, take, drop, replicate, length-append, length-take, length-drop, drop_of_length-le}
use lib.Seq.{drop-cons, take-take, get_or-take, get_or-drop}
use borrow.Author.Tests.{eq-eqb, ne_eqb, le-leb}
use Rattle.base.specs.Pick.{pick}
use Rattle.base.specs.Lists.{before}
use Rattle.base.specs.Bytes.{put, ◌then◌}
use Rattle.base.specs.Out.{Appended}
use Rattle.base.proofs.OutLaws.{none, more, all, after, drop_put, same_length_by}
use Rattle.room.proofs.RoomLaws.{before_short}
use Rattle.megaco.specs.Kept.{Kept, kept_under, youngest, acked}
use Rattle.megaco.specs.Room.{Room, room, row_of, slot_id, slot_sender, slot_reply, slot_of, held_in, lined, keep_in, left, closed, drop_in}
use Rattle.room.specs.Keeping.{keep_fitting}

-- what stands behind a text that was put stays
pub behind_put : (w l cur : List ℕ) (p k : ℕ) → Appended w 0 l cur p → length l ≤ k → get_or cur k 0 ≡ get_or w k 0
behind_put w l cur p k a h =
    let e : drop k cur ≡ drop k w = ap (λ (x : List ℕ). drop k x) a.text ∙ drop_put w 0 l k (omega arith) in
    let z : k + 0 ≡ k = omega arith in
    rw z at (sym (get_or-drop k cur 0 0) ∙ ap (λ (x : List ℕ). get_or x 0 0) e ∙ get_or-drop k w 0 0)

-- ---- the slots that are held

pub before_take : (l : List ℕ) → before 0 l ≡ take (length (before 0 l)) l
unfolding before pick
before_take [] = refl
before_take (x ∷ l) = by (eqb x 0) (before_take l)
  where
    by : (t : Bool) → before 0 l ≡ take (length (before 0 l)) l → pick t [] (x ∷ before 0 l) ≡ take (length (pick t [] (x ∷ before 0 l))) (x ∷ l)
    by true h = refl
    by false h = ap (λ (y : List ℕ). x ∷ y) h

pub held_most : (w : List ℕ) → length (held_in w) ≤ min 16 (length w)
unfolding held_in
held_most w = omega (arith, before_short (take 16 w), length-take 16 w)

pub held_take : (w : List ℕ) → held_in w ≡ take (length (held_in w)) w
unfolding held_in
held_take w = before_take (take 16 w) ∙ take-take (length (before 0 (take 16 w))) 16 w (omega (arith, before_short (take 16 w), length-take 16 w))

-- what is put where it stands changes nothing
put_own : (o : List ℕ) (k : ℕ) → put o 0 (take k o) ≡ o
unfolding put
put_own [] k = refl
put_own (y ∷ o) zero = refl
put_own (y ∷ o) (suc k) = ap (λ (x : List ℕ). y ∷ x) (put_own o k)

module _ (w l : List ℕ) (k : ℕ) (e : l ≡ take 16 w) (f : k ≡ length (before 0 l)) where
  k_is : k ≡ length (held_in w)
  unfolding held_in
  k_is = f ∙ ap (λ (x : List ℕ). length (before 0 x)) e

  pub long_row : 16 ≤ k → 16 ≤ length w
  long_row h = omega (arith, k_is, held_most w)

  pub line_more : (n : ℕ) (w' : List ℕ) (q : ℕ) → k < 16 → Appended w k (n ∷ []) w' q → w' ≡ lined n w
  unfolding lined youngest ◌then◌
  line_more n w' q h b =
      let own : put w 0 (held_in w) ≡ w = ap (λ (x : List ℕ). put w 0 x) (held_take w) ∙ put_own w (length (held_in w)) in
      let a : Appended w 0 (held_in w) w k = record { text = sym own; next = omega (arith, k_is, held_most w) } in
      let z : length (held_in w) - 15 ≡ 0 = omega (arith, k_is) in
      (after w 0 (held_in w) (n ∷ []) w w' k q a b).text ∙ rw z

  pub line_full : (n : ℕ) (w₁ w₂ : List ℕ) (q : ℕ) → 16 ≤ k → Appended w 0 (drop 1 (take 16 w)) w₁ 15 → Appended w₁ 15 (n ∷ []) w₂ q → w₂ ≡ lined n w
  unfolding lined youngest ◌then◌
  line_full n w₁ w₂ q h a b =
      let z : length (held_in w) ≡ 16 = omega (arith, k_is, held_most w) in
      let o : length (held_in w) - 15 ≡ 1 = omega arith in
      let own : held_in w ≡ take 16 w = held_take w ∙ rw z in
      (after w 0 (drop 1 (take 16 w)) (n ∷ []) w₁ w₂ 15 q a b).text ∙ rw (o, own)

-- ---- the row moved up by one
module _ (w cur : List ℕ) (i p : ℕ) (g : 16 ≤ length w) (a : Appended w 0 (take i (drop 1 (take 16 w))) cur p) where
  row_long : length (drop 1 (take 16 w)) ≡ 15
  row_long = omega (arith, length-drop 1 (take 16 w), length-take 16 w)

  module _ (e : p ≡ i) (h : i < 15) (v : ℕ) (f : v ≡ get_or cur (i + 1) 0) (w' : List ℕ) (p' : ℕ) (b : Appended cur p (v ∷ []) w' p') where
    v_is : v ≡ get_or (drop 1 (take 16 w)) i 0
    v_is =
        let z : 1 + i ≡ i + 1 = omega arith in
        f ∙ behind_put w (take i (drop 1 (take 16 w))) cur p (i + 1) a (omega (arith, length-take i (drop 1 (take 16 w))))
        ∙ sym (get_or-take 16 w (i + 1) 0 (omega arith)) ∙ sym (rw z at (get_or-drop 1 (take 16 w) i 0))

    pub shift_on : Appended w 0 (take (i + 1) (drop 1 (take 16 w))) w' p'
    shift_on = more w 0 (drop 1 (take 16 w)) cur w' i p p' (omega (arith, row_long)) a (rw v_is at b)

    pub shift_next : p' ≡ i + 1
    shift_next = omega (arith, b.next, same_length_by w 0 (take i (drop 1 (take 16 w))) cur p a)

  pub shift_end : p ≡ i → i ≤ 15 → 15 ≤ i → Appended w 0 (drop 1 (take 16 w)) cur 15
  shift_end e h k =
      let z : p ≡ 15 = omega arith in
      rw z at (all w 0 (drop 1 (take 16 w)) cur i p (omega (arith, row_long)) a)

pub shift_begin : (w : List ℕ) → Appended w 0 (take 0 (drop 1 (take 16 w))) w 0
shift_begin w = none w 0

-- a reply that fits
pub keep_fits : (m : List ℕ) (id : ℕ) (x : List ℕ) (r : Room) → length m ≤ 72 → length x ≤ 2048 → keep_fitting m id x r ≡ keep_in (kept_under m id x) r
unfolding keep_fitting pick
keep_fits m id x r h k = rw (le-leb (length m) 72 h, le-leb (length x) 2048 k)

-- ---- the row with some left out, as far as place i

pub record Cut (r : Room) (q : Kept → Bool) (cur : List ℕ) (p i : ℕ) : Type 0 where
  pub front : List ℕ
  pub text : Appended r.words 0 front cur p
  pub short : length front ≤ i
  pub within : length front ≤ length r.words
  pub whole : left r q (row_of r) ≡ front ++ left r q (drop i (row_of r))

within_by : (l : List ℕ) (i : ℕ) → (get_or l i 0 ≡ 0 → ⊥) → i < length l
within_by [] i h = absurd (h refl)
within_by (x ∷ l) zero h = omega arith
within_by (x ∷ l) (suc i) h = omega (arith, within_by l i h)

module _ (r : Room) (q : Kept → Bool) where
  left_none : (l : List ℕ) (i : ℕ) → get_or l i 0 ≡ 0 → left r q (drop i l) ≡ []
  unfolding left pick
  left_none [] zero e = refl
  left_none [] (suc i) e = refl
  left_none (x ∷ l) zero e = rw (eq-eqb x 0 e)
  left_none (x ∷ l) (suc i) e = left_none l i e

  left_some : (l : List ℕ) (i : ℕ) → (get_or l i 0 ≡ 0 → ⊥)
      → left r q (drop i l) ≡ pick (q (slot_of r (get_or l i 0))) (left r q (drop (i + 1) l)) (get_or l i 0 ∷ left r q (drop (i + 1) l))
  unfolding left pick
  left_some l i h = rw (drop-cons l i 0 (within_by l i h), ne_eqb _ _ h, add-one)

  pub cut_begin : Cut r q r.words 0 0
  cut_begin = record { front = []; text = none r.words 0; short = omega arith; within = omega arith; whole = refl }

  module _ (cur : List ℕ) (p i : ℕ) (c : Cut r q cur p i) where
    word_is : (n : ℕ) → i < 16 → n ≡ get_or cur i 0 → get_or (row_of r) i 0 ≡ n
    word_is n h e = get_or-take 16 r.words i 0 h ∙ sym (behind_put r.words c.front cur p i c.text c.short) ∙ sym e

    -- the row's words are not those of a slot
    slot_is : (n : ℕ) → i < 16 → (n ≡ 0 → ⊥) → slot_of (room cur r.bytes) n ≡ slot_of r n
    unfolding slot_id slot_sender slot_reply
    slot_is n h z =
        let s : length c.front ≤ i = c.short in
        let b : (k : ℕ) → 15 + n ≤ k → get_or cur k 0 ≡ get_or r.words k 0 = λ k l. behind_put r.words c.front cur p k c.text (omega arith) in
        rw (b (15 + n) (omega arith), b (31 + n) (omega arith), b (47 + n) (omega arith))

    module _ (h : i < 16) (n : ℕ) (e : n ≡ get_or cur i 0) (z : n ≡ 0 → ⊥) (x : Bool) (f : x ≡ q (slot_of (room cur r.bytes) n)) where
      turn : left r q (row_of r) ≡ c.front ++ pick x (left r q (drop (i + 1) (row_of r))) (n ∷ left r q (drop (i + 1) (row_of r)))
      turn =
          let w = word_is n h e in
          c.whole ∙ ap (λ (y : List ℕ). c.front ++ y) (left_some (row_of r) i (λ k. z (sym w ∙ k)) ∙ rw (w, f, slot_is n h z))

      cut_out : x ≡ true → Cut r q cur p (i + 1)
      unfolding pick
      cut_out k = record { front = c.front; text = c.text; short = omega (arith, c.short); within = c.within; whole = turn ∙ rw k }

      cut_in : x ≡ false → (w' : List ℕ) (p' : ℕ) → Appended cur p (n ∷ []) w' p' → Cut r q w' p' (i + 1)
      unfolding pick ◌then◌
      cut_in k w' p' b =
          let w = word_is n h e in
          let g : i < length r.words = omega (arith, within_by (row_of r) i (λ y. z (sym w ∙ y)), length-take 16 r.words) in
          record {
            front = c.front ++ (n ∷ []);
            text = after r.words 0 c.front (n ∷ []) cur w' p p' c.text b;
            short = omega (arith, length-append c.front (n ∷ []), c.short);
            within = omega (arith, length-append c.front (n ∷ []), c.short);
            whole = turn ∙ rw k (sym (append_assoc c.front (n ∷ []) (left r q (drop (i + 1) (row_of r)))));
          }

    ended : left r q (drop i (row_of r)) ≡ [] → (w' : List ℕ) → w' ≡ put cur p (replicate (16 - p) 0) → room w' r.bytes ≡ drop_in q r
    unfolding drop_in closed ◌then◌
    ended e w' f =
        let l : left r q (row_of r) ≡ c.front = c.whole ∙ rw e (append-nil c.front) in
        let k : p ≡ length c.front = omega (arith, c.text.next, c.within) in
        let z : List ℕ = replicate (16 - p) 0 in
        let b : Appended cur p z w' (max p (min (p + length z) (length cur))) = record { text = f; next = refl } in
        let t : w' ≡ put r.words 0 (c.front ++ z) = (after r.words 0 c.front z cur w' p _ c.text b).text in
        ap (λ (y : List ℕ). room y r.bytes) (t ∙ rw (l, k))

    cut_stop : i < 16 → (n : ℕ) → n ≡ get_or cur i 0 → n ≡ 0 → (w' : List ℕ) → w' ≡ put cur p (replicate (16 - p) 0) → room w' r.bytes ≡ drop_in q r
    cut_stop h n e z w' f = ended (left_none (row_of r) i (word_is n h e ∙ z)) w' f

    cut_end : 16 ≤ i → (w' : List ℕ) → w' ≡ put cur p (replicate (16 - p) 0) → room w' r.bytes ≡ drop_in q r
    unfolding left
    cut_end h w' f =
        let e : length (row_of r) ≤ i = omega (arith, length-take 16 r.words) in
        ended (rw (drop_of_length-le (row_of r) e)) w' f

module _ (w b m : List ℕ) (first last : ℕ) (cur : List ℕ) (p i : ℕ) (c : Cut (room w b) (acked m first last) cur p i) (w' : List ℕ) (f : w' ≡ put cur p (replicate (16 - p) 0)) where
  pub range_stop : i < 16 → (n : ℕ) → n ≡ get_or cur i 0 → n ≡ 0 → room w' b ≡ drop_in (acked m first last) (room w b)
  range_stop h n e z = cut_stop (room w b) (acked m first last) cur p i c h n e z w' f

  pub range_end : 16 ≤ i → room w' b ≡ drop_in (acked m first last) (room w b)
  range_end h = cut_end (room w b) (acked m first last) cur p i c h w' f

module _ (w b m : List ℕ) (first last : ℕ) (cur : List ℕ) (p i : ℕ) (c : Cut (room w b) (acked m first last) cur p i) (h : i < 16) (n : ℕ) (e : n ≡ get_or cur i 0) (z : n ≡ 0 → ⊥)
    (x : Bool) (f : x ≡ acked m first last (slot_of (room cur b) n)) where
  pub range_out : x ≡ true → Cut (room w b) (acked m first last) cur p (i + 1)
  range_out k = cut_out (room w b) (acked m first last) cur p i c h n e z x f k

  pub range_in : x ≡ false → (w' : List ℕ) (p' : ℕ) → Appended cur p (n ∷ []) w' p' → Cut (room w b) (acked m first last) w' p' (i + 1)
  range_in k w' p' a = cut_in (room w b) (acked m first last) cur p i c h n e z x f k w' p' a

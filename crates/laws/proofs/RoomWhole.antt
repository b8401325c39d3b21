-- A sound room, taken apart: what its row tells, and what is kept.
use Prim.Native.Nat.{ℕ, zero, suc, ◌+◌, ◌-◌, ◌≤◌}
use mathlib.Core.Path.{◌≡◌, refl, sym, ap, ◌∙◌, subst}
use mathlib.Core.Bool.{Bool, true, false, ◌&&◌}
use mathlib.Core.List.{List, [], ◌∷◌, ◌++◌, map}
use mathlib.Core.Option.{none, some}
use native.Mathlib.Omega.{arith}
use lib.Dec.{eqb, leb}
use lib.ListN.{length, get_or, replicate}
use borrow.Author.Tests.{eqb-true, eqb-false, eq-eqb, ne_eqb, leb-true, le-leb}
use Rattle.base.specs.Pick.{pick}
use Rattle.base.specs.Lists.{has, every, before}
use Rattle.base.proofs.TestLaws.{and_both, pick_both, pick_other}
use Rattle.megaco.specs.Kept.{under, find}
use Rattle.megaco.specs.Room.{Room, row_of, slot_id, slot_sender, slot_reply, slot_of, held_in, kept_of, slot_in, found_in, slot_fits, slot_good, is_zero, row_good, room_sound}
use Rattle.laws.proofs.KeptLaws.{some_not}
use Rattle.laws.proofs.RoomFree.{has_append, has_left, has_zeros}

-- ---- look-up in the room is look-up among the kept replies

find_row : (r : Room) (m : List ℕ) (id : ℕ) (l : List ℕ) → find m id (map (slot_of r) (before 0 l)) ≡ found_in r (slot_in r m id l)
unfolding find slot_in before found_in pick
find_row r m id [] = refl
find_row r m id (n ∷ l) = by (eqb n 0) refl (under m id (slot_of r n)) refl (find_row r m id l)
  where
    by : (z : Bool) → eqb n 0 ≡ z → (u : Bool) → under m id (slot_of r n) ≡ u → find m id (map (slot_of r) (before 0 l)) ≡ found_in r (slot_in r m id l)
        → find m id (map (slot_of r) (pick z [] (n ∷ before 0 l))) ≡ found_in r (pick z 0 (pick u n (slot_in r m id l)))
    by true e u f h = refl
    by false e true f h = rw (f, e)
    by false e false f h = rw f h

-- "a request whose pair is kept": what the room answers is what the list of kept replies answers
pub find_in : (r : Room) (m : List ℕ) (id : ℕ) → find m id (kept_of r) ≡ found_in r (slot_in r m id (row_of r))
unfolding kept_of held_in
find_in r m id = find_row r m id (row_of r)

pub found_none : (r : Room) (n : ℕ) → found_in r n ≡ none → n ≡ 0
unfolding found_in pick
found_none r n e = by (eqb n 0) refl e
  where
    by : (z : Bool) → eqb n 0 ≡ z → pick z none (some (slot_reply r n)) ≡ none → n ≡ 0
    by true f g = eqb-true n 0 f
    by false f g = absurd (some_not (slot_reply r n) g)

none_found : (r : Room) (n : ℕ) → n ≡ 0 → found_in r n ≡ none
unfolding found_in pick
none_found r n e = rw e

-- ---- slots that hold a reply

pub record Slot (r : Room) (n : ℕ) : Type 0 where
  pub low : 1 ≤ n
  pub high : n ≤ 16
  pub sender : get_or r.words (31 + n) 0 ≤ 72
  pub reply : get_or r.words (47 + n) 0 ≤ 2048

-- each once, and each pair once
pub data Held (r : Room) : List ℕ → Type 0 where
  free : Held r []
  held : {n : ℕ} {h : List ℕ} → Slot r n → has n h ≡ false → find (slot_sender r n) (slot_id r n) (map (slot_of r) h) ≡ none → Held r h → Held r (n ∷ h)

pub before_zeros : (r : Room) (h : List ℕ) (k : ℕ) → Held r h → before 0 (h ++ replicate k 0) ≡ h
unfolding before pick
before_zeros r [] zero free = refl
before_zeros r [] (suc k) free = refl
before_zeros r (n ∷ h) k (held s a b t) = rw (ne_eqb n 0 (λ e. omega (arith, s.low))) (ap (λ (l : List ℕ). n ∷ l) (before_zeros r h k t))

-- a row that tells these and then zeros
pub record Row (r : Room) (l h : List ℕ) : Type 0 where
  pub line : l ≡ h ++ replicate (length l - length h) 0
  pub held : Held r h

zeros_are : (l : List ℕ) → every is_zero l ≡ true → l ≡ replicate (length l) 0
unfolding every is_zero
zeros_are [] e = refl
zeros_are (x ∷ l) e =
    let p = pick_both (eqb x 0) (every is_zero l) e in
    let q = eqb-true x 0 p.0 in
    let t = zeros_are l p.1 in
    λ i. q i ∷ t i

are_zeros : (k : ℕ) → every is_zero (replicate k 0) ≡ true
unfolding every is_zero pick
are_zeros zero = refl
are_zeros (suc k) = are_zeros k

-- what the test of a slot tells
pub record Good (r : Room) (n : ℕ) (l : List ℕ) : Type 0 where
  pub high : n ≤ 16
  pub sender : get_or r.words (31 + n) 0 ≤ 72
  pub reply : get_or r.words (47 + n) 0 ≤ 2048
  pub once : has n l ≡ false
  pub alone : slot_in r (slot_sender r n) (slot_id r n) l ≡ 0

good_is : (r : Room) (n : ℕ) (l : List ℕ) → slot_good r n l ≡ true → Good r n l
unfolding slot_good slot_fits
good_is r n l e =
    let a = pick_both (leb n 16) _ e in
    let b = pick_both (leb (get_or r.words (31 + n) 0) 72 && leb (get_or r.words (47 + n) 0) 2048) _ a.1 in
    let c = and_both (leb (get_or r.words (31 + n) 0) 72) (leb (get_or r.words (47 + n) 0) 2048) b.0 in
    let d = pick_other (has n l) (eqb (slot_in r (slot_sender r n) (slot_id r n) l) 0) b.1 in
    record { high = leb-true n 16 a.0; sender = leb-true _ 72 c.0; reply = leb-true _ 2048 c.1; once = d.0; alone = eqb-true _ 0 d.1 }

is_good : (r : Room) (n : ℕ) (l : List ℕ) → Good r n l → slot_good r n l ≡ true
unfolding slot_good slot_fits pick
is_good r n l g =
    rw (le-leb n 16 g.high, le-leb (get_or r.words (31 + n) 0) 72 g.sender, le-leb (get_or r.words (47 + n) 0) 2048 g.reply, g.once, g.alone)

-- ---- what the test of the row tells, and what passes it

row_held : (r : Room) (l : List ℕ) → row_good r l ≡ true → Row r l (before 0 l)
unfolding row_good before pick
row_held r [] e = record { line = refl; held = free }
row_held r (n ∷ l) e = by (eqb n 0) refl e (row_held r l)
  where
    by : (z : Bool) → eqb n 0 ≡ z → pick z (every is_zero l) (pick (slot_good r n l) (row_good r l) false) ≡ true → (row_good r l ≡ true → Row r l (before 0 l))
        → Row r (n ∷ l) (pick z [] (n ∷ before 0 l))
    by true f g h =
        let q = eqb-true n 0 f in
        let t = zeros_are l g in
        let z : n ∷ l ≡ 0 ∷ replicate (length l) 0 = λ i. q i ∷ t i in
        let d : suc (length l) - 0 ≡ suc (length l) = omega arith in
        record { line = rw d z; held = free }
    by false f g h =
        let p = pick_both (slot_good r n l) (row_good r l) g in
        let a = good_is r n l p.0 in
        let b = h p.1 in
        let z : (n ≡ 0 → ⊥) = eqb-false n 0 f in
        let o : has n (before 0 l ++ replicate (length l - length (before 0 l)) 0) ≡ false = subst (λ (x : List ℕ). has n x ≡ false) b.line a.once in
        record {
          line = let d : suc (length l) - suc (length (before 0 l)) ≡ length l - length (before 0 l) = omega arith in rw d (ap (λ (x : List ℕ). n ∷ x) b.line);
          held =
              held {n = n} (record { low = omega (arith, z); high = a.high; sender = a.sender; reply = a.reply })
              (has_left n (before 0 l) (replicate (length l - length (before 0 l)) 0) o)
              (find_row r (slot_sender r n) (slot_id r n) l ∙ none_found r (slot_in r (slot_sender r n) (slot_id r n) l) a.alone) b.held;
        }

held_row : (r : Room) (h : List ℕ) (k : ℕ) → Held r h → row_good r (h ++ replicate k 0) ≡ true
unfolding row_good pick
held_row r [] zero free = refl
held_row r [] (suc k) free = are_zeros k
held_row r (n ∷ h) k (held s a b t) =
    let l : List ℕ = h ++ replicate k 0 in
    let f : find (slot_sender r n) (slot_id r n) (map (slot_of r) (before 0 l)) ≡ none = rw (before_zeros r h k t) b in
    let g : Good r n l =
    record {
      high = s.high;
      sender = s.sender;
      reply = s.reply;
      once = has_append n h (replicate k 0) a (has_zeros n k s.low);
      alone = found_none r (slot_in r (slot_sender r n) (slot_id r n) l) (sym (find_row r (slot_sender r n) (slot_id r n) l) ∙ f);
    } in
    rw (ne_eqb n 0 (λ e. omega (arith, s.low)), is_good r n l g) (held_row r h k t)

-- ---- the room

pub record Whole (r : Room) : Type 0 where
  pub words : length r.words ≡ 64
  pub bytes : length r.bytes ≡ 33920
  pub row : Row r (row_of r) (held_in r.words)

pub sound_whole : (r : Room) → room_sound r ≡ true → Whole r
unfolding room_sound held_in
sound_whole r e =
    let a = pick_both (eqb (length r.words) 64) _ e in
    let b = pick_both (eqb (length r.bytes) 33920) (row_good r (row_of r)) a.1 in
    record { words = eqb-true _ 64 a.0; bytes = eqb-true _ 33920 b.0; row = row_held r (row_of r) b.1 }

pub whole_sound : (r : Room) (h : List ℕ) → length r.words ≡ 64 → length r.bytes ≡ 33920 → Row r (row_of r) h → room_sound r ≡ true
unfolding room_sound pick
whole_sound r h a b c =
    let g : row_good r (h ++ replicate (length (row_of r) - length h) 0) ≡ true = held_row r h (length (row_of r) - length h) c.held in
    rw (eq-eqb _ 64 a, eq-eqb _ 33920 b) (subst (λ (x : List ℕ). row_good r x ≡ true) (sym c.line) g)

-- what the row tells is what is held
pub row_told : (r : Room) (h : List ℕ) → Row r (row_of r) h → held_in r.words ≡ h
unfolding held_in
row_told r h c = ap (before 0) c.line ∙ before_zeros r h (length (row_of r) - length h) c.held

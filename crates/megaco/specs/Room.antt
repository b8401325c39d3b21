-- The lent room: 64 words and 33,920 bytes for 16 slots, numbered 1 to 16. A room of zeros keeps nothing.
--   words 0..15    the slots that hold a reply, the oldest first; then 0
--   words 15 + n   the identifier of slot n; 31 + n the length of its mId; 47 + n that of its reply
--   bytes          of slot n, from 2,120 × (n - 1) on: 72 for the mId, 2,048 for the reply
-- Left free are the words and bytes of a slot that holds none, and bytes past a length: any may stand there, and they stay until used.
use Rattle.std.specs.Prelude.{ℕ, zero, suc, ◌+◌, ◌*◌, ◌-◌, Bool, true, false, ◌&&◌, List, [], ◌∷◌, ◌++◌, map, length, get_or, take, drop, set, replicate, leb, eqb}
use Rattle.std.proofs.Math.Option.{Option, none, some}
use Rattle.base.specs.Pick.{pick}
use Rattle.base.specs.Lists.{every, has, before}
use Rattle.base.specs.Bytes.{put}
use Rattle.megaco.specs.Kept.{Kept, kept_under, under, youngest}

pub record Room : Type 0 where
  pub words : List ℕ
  pub bytes : List ℕ

abbrev pub room : List ℕ → List ℕ → Room
room w b = record { words = w; bytes = b }

-- ---- what the room holds

abbrev pub row_of : Room → List ℕ
row_of r = take 16 r.words

unfoldable pub slot_place : ℕ → ℕ
slot_place n = 2120 * (n - 1)

-- what a slot holds
unfoldable pub slot_id : Room → ℕ → ℕ
slot_id r n = get_or r.words (15 + n) 0

unfoldable pub slot_sender : Room → ℕ → List ℕ
slot_sender r n = take (get_or r.words (31 + n) 0) (drop (slot_place n) r.bytes)

unfoldable pub slot_reply : Room → ℕ → List ℕ
slot_reply r n = take (get_or r.words (47 + n) 0) (drop (slot_place n + 72) r.bytes)

abbrev pub slot_of : Room → ℕ → Kept
slot_of r n = kept_under (slot_sender r n) (slot_id r n) (slot_reply r n)

-- the slots that hold a reply, the oldest first
unfoldable pub held_in : List ℕ → List ℕ
held_in w = before 0 (take 16 w)

-- THE ABSTRACT VIEW: the kept replies
unfoldable pub kept_of : Room → List Kept
kept_of r = map (slot_of r) (held_in r.words)

-- ---- look-up: the slot of the first row entry that is kept under a pair, 0 if none is
unfoldable pub slot_in : Room → List ℕ → ℕ → List ℕ → ℕ
slot_in r m id [] = 0
slot_in r m id (n ∷ row) = let x = slot_in r m id row in pick (eqb n 0) 0 (pick (under m id (slot_of r n)) n x)

-- the reply of a slot, none of slot 0
unfoldable pub found_in : Room → ℕ → Option (List ℕ)
found_in r n = pick (eqb n 0) none (some (slot_reply r n))

-- ---- refusal 5

-- "a kept reply over 2,048 bytes or its mId over 72"
unfoldable pub slot_fits : List ℕ → ℕ → Bool
slot_fits w n = leb (get_or w (31 + n) 0) 72 && leb (get_or w (47 + n) 0) 2048

-- a slot that the row tells, with what it tells behind it: one of the 16, told once ("ages that give no order"); "a pair kept twice"
unfoldable pub slot_good : Room → ℕ → List ℕ → Bool
slot_good r n row =
    pick (leb n 16) (pick (slot_fits r.words n) (pick (has n row) false (eqb (slot_in r (slot_sender r n) (slot_id r n) row) 0)) false) false

unfoldable pub is_zero : ℕ → Bool
is_zero n = eqb n 0

unfoldable pub row_good : Room → List ℕ → Bool
row_good r [] = true
row_good r (n ∷ row) = let x = row_good r row in pick (eqb n 0) (every is_zero row) (pick (slot_good r n row) x false)

unfoldable pub room_sound : Room → Bool
room_sound r = pick (eqb (length r.words) 64) (pick (eqb (length r.bytes) 33920) (row_good r (row_of r)) false) false

-- ---- keep

-- the lowest number from n on that does not stand in a row
unfoldable pub lowest_free : ℕ → ℕ → List ℕ → ℕ
lowest_free zero n row = n
lowest_free (suc k) n row = let x = lowest_free k (n + 1) row in pick (has n row) x n

-- "Room freed is used for the next reply": the lowest slot that holds none; the oldest's where all 16 do
unfoldable pub slot_for : List ℕ → ℕ
slot_for w = pick (leb 16 (length (held_in w))) (get_or w 0 0) (lowest_free 16 1 (take 16 w))

-- a slot told last, as the youngest
unfoldable pub lined : ℕ → List ℕ → List ℕ
lined n w = put w 0 (youngest 15 (held_in w) ++ (n ∷ []))

unfoldable pub noted : ℕ → ℕ → ℕ → ℕ → List ℕ → List ℕ
noted n id a b w = set (set (set w (15 + n) id) (31 + n) a) (47 + n) b

unfoldable pub stored : ℕ → List ℕ → List ℕ → List ℕ → List ℕ
stored n m x b = put (put b (slot_place n) m) (slot_place n + 72) x

unfoldable pub keep_at : ℕ → Kept → Room → Room
keep_at n k r = room (noted n k.id (length k.sender) (length k.reply) (lined n r.words)) (stored n k.sender k.reply r.bytes)

unfoldable pub keep_in : Kept → Room → Room
keep_in k r = keep_at (slot_for r.words) k r

-- ---- drop: only the row changes

unfoldable pub left : Room → (Kept → Bool) → List ℕ → List ℕ
left r q [] = []
left r q (n ∷ row) = let x = left r q row in pick (eqb n 0) [] (pick (q (slot_of r n)) x (n ∷ x))

unfoldable pub closed : List ℕ → List ℕ
closed l = l ++ replicate (16 - length l) 0

unfoldable pub drop_in : (Kept → Bool) → Room → Room
drop_in q r = room (put r.words 0 (closed (left r q (row_of r)))) r.bytes

-- The line at a place of a chunk, as a loop finds its end; the lines of an input that comes in chunks.
use Prim.Native.Nat.{ℕ, zero, suc, ◌+◌, ◌-◌, ◌≤◌, ◌<◌}
use mathlib.Core.Path.{◌≡◌, refl, ap}
use mathlib.Core.Bool.{Bool, true, false, cond, not}
use Rattle.std.specs.List.{position, position_or_len, prefix_len}
use Rattle.std.specs.Option.{unwrap_or}
use Rattle.std.proofs.Common.{Some, None, ltb}
use Rattle.std.proofs.lemmas.Bool.Decides.{nat_tests}
use mathlib.Core.List.{List, [], ◌∷◌, ◌++◌}
use native.Mathlib.Omega.{arith}
use lib.ListN.{length, take, drop, length-drop, drop_of_length-le}
use lib.Seq.{drop-drop}
use lib.Dec.{eqb}
use borrow.Author.Tests.{eqb-true}
use Rattle.base.specs.Pick.{pick}
use Rattle.base.specs.Lists.{before}
use Rattle.base.specs.Out.{Appended}
use Rattle.base.proofs.PickLaws.{pick_ind}
use Rattle.base.proofs.OutLaws.{none}
use Rattle.sessions.specs.Lines.{line_end, on_first, lines_of, Unended, nothing, byte, line_from, line_end_at}

-- ---- where a line ends

pub length_before : (b : ℕ) (s : List ℕ) → length (before b s) ≤ length s
unfolding before
length_before b [] = omega arith
length_before b (x ∷ s) = pick_ind (λ l. length l ≤ suc (length s)) (eqb x b) [] (x ∷ before b s) (λ t. omega arith) (λ t. omega (arith, length_before b s))

first_place : (b : ℕ) (l : List ℕ) → position_or_len (λ x. eqb x b) l ≡ length (before b l)
unfolding before pick
first_place b [] = refl
first_place b (x ∷ l) = by (eqb x b) (first_place b l)
  where
    by : (t : Bool) → position_or_len (λ y. eqb y b) l ≡ length (before b l) → cond (not t) (1 + prefix_len (λ y. not (eqb y b)) l) 0 ≡ length (pick t [] (x ∷ before b l))
    by true e = refl
    by false e = omega arith

first_or_end : (n k : ℕ) → n ≤ k → unwrap_or (cond (ltb n k) (Some n) None) k ≡ n
first_or_end n k h = grind (arith, nat_tests)

pub ends_at : (l : List ℕ) → unwrap_or (position (λ x. eqb x line_end) l) (length l) ≡ length (before line_end l)
ends_at l = rw (first_place line_end l) (first_or_end (length (before line_end l)) (length l) (length_before line_end l))

-- ---- the part that is taken

take_before : (b : ℕ) (s : List ℕ) → take (length (before b s)) s ≡ before b s
unfolding before
take_before b [] = refl
take_before b (x ∷ s) = pick_ind (λ l. take (length l) (x ∷ s) ≡ l) _ _ _ (λ t. refl) (λ t. ap (λ (l : List ℕ). x ∷ l) (take_before b s))

module _ (s : List ℕ) (from : ℕ) where
  pub part_none : (o : List ℕ) (at : ℕ) → length s ≤ from → Appended o at (line_from s from) o at
  unfolding before
  part_none o at h = rw (drop_of_length-le s h) (none o at)

  pub end_within : (e : ℕ) → e ≡ line_end_at s from → from < length s → e ≤ length s
  end_within e is h = omega (arith, length_before line_end (drop from s), length-drop from s)

  pub part_put : (e : ℕ) (o : List ℕ) (at : ℕ) (o' : List ℕ) (r : ℕ) → e ≡ line_end_at s from → Appended o at (take (e - from) (drop from s)) o' r
      → Appended o at (line_from s from) o' r
  part_put e o at o' r is f =
      let n : e - from ≡ length (line_from s from) = omega arith in
      let x : take (e - from) (drop from s) ≡ line_from s from = rw n (take_before line_end (drop from s)) in
      rw x at f

-- ---- bytes of a line that has not ended

pub unended_before : (s : List ℕ) → Unended (before line_end s)
unfolding before
unended_before [] = nothing
unended_before (x ∷ s) = pick_ind Unended (eqb x line_end) [] (x ∷ before line_end s) (λ t. nothing) (λ t. byte t (unended_before s))

pub unended_append : {h g : List ℕ} → Unended h → Unended g → Unended (h ++ g)
unended_append nothing v = v
unended_append (byte e u) v = byte e (unended_append u v)

pub unended_take : {g : List ℕ} (n : ℕ) → Unended g → Unended (take n g)
unended_take zero u = nothing
unended_take (suc n) nothing = nothing
unended_take (suc n) (byte e u) = byte e (unended_take n u)

-- ---- the lines of an input that comes in chunks

-- bytes before the first of some lines
abbrev pub fronted : List ℕ → List (List ℕ) → List (List ℕ)
fronted [] ls = ls
fronted (b ∷ h) ls = on_first b (fronted h ls)

pub lines_fronted : {h : List ℕ} → Unended h → (s : List ℕ) → lines_of (h ++ s) ≡ fronted h (lines_of s)
unfolding lines_of pick
lines_fronted nothing s = refl
lines_fronted (byte e u) s = rw (e, lines_fronted u s)

-- the first of some lines, and the others
abbrev pub first_of : List (List ℕ) → List ℕ
first_of [] = []
first_of (l ∷ ls) = l

abbrev pub others_of : List (List ℕ) → List (List ℕ)
others_of [] = []
others_of (l ∷ ls) = ls

pub fronted_is : (b : ℕ) (h : List ℕ) (ls : List (List ℕ)) → fronted (b ∷ h) ls ≡ ((b ∷ h) ++ first_of ls) ∷ others_of ls
unfolding on_first
fronted_is b [] [] = refl
fronted_is b [] (l ∷ ls) = refl
fronted_is b (x ∷ h) ls = rw (fronted_is x h ls)

-- a line end ends the line
pub lines_ended : {h : List ℕ} → Unended h → (s : List ℕ) → lines_of (h ++ line_end ∷ s) ≡ h ∷ lines_of s
unfolding lines_of pick on_first
lines_ended nothing s = refl
lines_ended (byte e u) s = rw (e, lines_ended u s)

-- a chunk from a place on: the line there, and if it ends in the chunk its line end and what follows
before_split : (b : ℕ) (s : List ℕ) → length (before b s) < length s → s ≡ before b s ++ b ∷ drop (suc (length (before b s))) s
unfolding before pick
before_split b [] h = absurd (omega arith)
before_split b (x ∷ s) h = by (eqb x b) refl h (before_split b s)
  where
    by : (t : Bool) → eqb x b ≡ t → length (pick t [] (x ∷ before b s)) < suc (length s)
        → (length (before b s) < length s → s ≡ before b s ++ b ∷ drop (suc (length (before b s))) s)
        → x ∷ s ≡ pick t [] (x ∷ before b s) ++ b ∷ drop (length (pick t [] (x ∷ before b s))) s
    by true e h r = rw (eqb-true x b e)
    by false e h r = ap (λ (l : List ℕ). x ∷ l) (r (omega arith))

before_all : (b : ℕ) (s : List ℕ) → length s ≤ length (before b s) → s ≡ before b s
unfolding before pick
before_all b [] h = refl
before_all b (x ∷ s) h = by (eqb x b) h (before_all b s)
  where
    by : (t : Bool) → suc (length s) ≤ length (pick t [] (x ∷ before b s)) → (length s ≤ length (before b s) → s ≡ before b s) → x ∷ s ≡ pick t [] (x ∷ before b s)
    by true h r = absurd (omega arith)
    by false h r = ap (λ (l : List ℕ). x ∷ l) (r (omega arith))

module _ (s : List ℕ) (from e : ℕ) (is : e ≡ line_end_at s from) where
  pub chunk_ended : e < length s → drop from s ≡ line_from s from ++ line_end ∷ drop (e + 1) s
  chunk_ended h =
      let n : e + 1 ≡ from + suc (length (line_from s from)) = omega arith in
      rw (n, ← drop-drop) (before_split line_end (drop from s) (omega (arith, length-drop from s)))

  pub chunk_open : length s ≤ e → drop from s ≡ line_from s from
  chunk_open h = before_all line_end (drop from s) (omega (arith, length-drop from s))

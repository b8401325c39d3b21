-- What is printed for a chunk of input is what the session prints for it, wherever the input is cut.
use Prim.Native.Nat.{ℕ, zero, suc, ◌+◌, ◌≤◌, ◌<◌, min}
use mathlib.Core.Path.{◌≡◌, refl, sym, ap, ◌∙◌, subst}
use mathlib.Core.Bool.{Bool, true, false}
use mathlib.Core.List.{List, [], ◌∷◌, ◌++◌, append_assoc, append-nil}
use native.Mathlib.Omega.{arith}
use lib.ListN.{length, take, drop, length-append, length-take, drop_of_length-le}
use lib.Seq.{take_all, take-nil}
use lib.Dec.{leb}
use borrow.Author.Tests.{leb-true, leb-false}
use Rattle.base.specs.Pick.{pick}
use Rattle.base.specs.Lists.{before}
use Rattle.base.specs.Bytes.{put, ◌then◌}
use Rattle.base.specs.Out.{Appended}
use Rattle.base.proofs.OutLaws.{none, take_put, same_length_by}
use Rattle.base.proofs.TextLaws.{none_then}
use Rattle.laws.proofs.Sound.{fresh_sound}
use Rattle.laws.proofs.RoomEmpty.{empty_room}
use Rattle.laws.proofs.Figures.{fresh_blocks}
use Rattle.megaco.specs.Call.{state_fits}
use Rattle.sessions.specs.Lines.{line_end, lines_of, Unended, nothing, byte, line_from, line_end_at}
use Rattle.sessions.specs.Listing.{lines, report_text}
use Rattle.sessions.specs.Session.{Lent, ready, answered, left_by, answer_text, session_text, rest_text, line_room, taken_in, answer_room, Answers, HoldsLine, Turned, Finished, fresh_table, printed_text, joined, Run, turn, read, end}
use Rattle.sessions.proofs.AnswerLaws.{long_alike, answer_fits, answered_ready}
use Rattle.sessions.proofs.FitLaws.{report_fits}
use Rattle.sessions.proofs.TakenLaws.{taken_part, taken_end}
use Rattle.sessions.proofs.LineLaws.{unended_before, unended_append, unended_take, fronted, lines_fronted, first_of, fronted_is, lines_ended, chunk_ended, chunk_open}

-- ---- a line that is too long

long_fronts : (h g : List ℕ) (ls : List (List ℕ)) (t : Lent) → 4096 < length h → 4096 < length g → session_text (fronted h ls) t ≡ session_text (fronted g ls) t
unfolding session_text
long_fronts [] g ls t p q = absurd (omega arith)
long_fronts (b ∷ h) [] ls t p q = absurd (omega arith)
long_fronts (b ∷ h) (d ∷ g) ls t p q =
    rw (
      fronted_is b h ls,
      fronted_is d g ls,
      long_alike ((b ∷ h) ++ first_of ls) ((d ∷ g) ++ first_of ls) t
          (omega (arith, length-append h (first_of ls))) (omega (arith, length-append g (first_of ls))),
    )

-- of a line the first 4,097 bytes are enough
rest_cut : (k : ℕ) (h : List ℕ) (t : Lent) (s : List ℕ) → 4096 < k → Unended h → rest_text h t s ≡ rest_text (take k h) t s
unfolding rest_text
rest_cut k h t s l u = by (leb (length h) k) refl
  where
    by : (x : Bool) → leb (length h) k ≡ x → session_text (lines_of (h ++ s)) t ≡ session_text (lines_of (take k h ++ s)) t
    by true e = rw (take_all k h (leb-true (length h) k e))
    by false e =
        let n : k < length h = leb-false (length h) k e in
        rw (lines_fronted u s, lines_fronted (unended_take k u) s) (long_fronts h (take k h) (lines_of s) t (omega arith) (omega (arith, length-take k h)))

-- ---- a turn: the line at a place of a chunk, its first bytes being held

-- the bytes held after a part of the line is taken
held_after : (o : List ℕ) (at : ℕ) (bs : List ℕ) (r : ℕ) → at ≤ length o → r ≡ min (at + length bs) (length o) → take r (put o at bs) ≡ take (length o) (take at o ++ bs)
unfolding put
held_after [] at bs r h e = take-nil r
held_after (y ∷ o) zero [] r h e = let z : r ≡ 0 = omega arith in rw z
held_after (y ∷ o) zero (b ∷ bs) r h e =
    let q : ℕ = min (0 + length bs) (length o) in
    let z : r ≡ suc q = omega arith in
    rw z (ap (λ (l : List ℕ). b ∷ l) (held_after o zero bs q (omega arith) refl))
held_after (y ∷ o) (suc at) bs r h e =
    let q : ℕ = min (at + length bs) (length o) in
    let z : r ≡ suc q = omega arith in
    rw z (ap (λ (l : List ℕ). y ∷ l) (held_after o at bs q (omega arith) refl))

module _ (line : List ℕ) (held : ℕ) (hold : HoldsLine line held) (g : List ℕ) (line' : List ℕ) (h : ℕ) (took : Appended line held g line' h) where
  held_is : take h line' ≡ take (length line) (take held line ++ g)
  held_is = rw took.text (held_after line held g h (omega (arith, hold.room, hold.within)) (omega (arith, took.next, hold.room, hold.within)))

  holds_on : Unended g → HoldsLine line' h
  holds_on u =
      record {
        room = same_length_by _ _ _ _ _ took ∙ hold.room;
        within = omega (arith, took.next, hold.room, hold.within);
        unended = rw held_is (unended_take (length line) (unended_append hold.unended u));
      }

  taken_here : Unended g → (t : Lent) (s : List ℕ) → taken_in (take held line) t (g ++ s) ≡ taken_in (take h line') t s
  taken_here u t s =
      let e : take line_room (take held line ++ g) ≡ take h line' = ap (λ (k : ℕ). take k (take held line ++ g)) (sym hold.room) ∙ sym held_is in
      taken_part u (take held line) t s (omega (arith, length-take held line, hold.within)) ∙ ap (λ (x : List ℕ). taken_in x t s) e

  rest_part : Unended g → (t : Lent) (s : List ℕ) → rest_text (take held line) t (g ++ s) ≡ rest_text (take h line') t s
  unfolding rest_text
  rest_part u t s = rw (← append_assoc, held_is) (rest_cut (length line) (take held line ++ g) t s (omega (arith, hold.room)) (unended_append hold.unended u))

rest_ended : (m : List ℕ) (t : Lent) (s : List ℕ) → Unended m → rest_text m t (line_end ∷ s) ≡ answer_text (answered m t) then rest_text [] (left_by (answered m t)) s
unfolding rest_text session_text
rest_ended m t s u = rw (lines_ended u s)

-- a line that is held, by what its bytes are: up to the first line end they are all of them
unended_by : (s : List ℕ) → before line_end s ≡ s → Unended s
unended_by s e = subst Unended e (unended_before s)

before_unended : {s : List ℕ} → Unended s → before line_end s ≡ s
unfolding before pick
before_unended nothing = refl
before_unended (byte e u) = rw (e, before_unended u)

pub holds_by : (line : List ℕ) (held : ℕ) → length line ≡ line_room → held ≤ line_room → before line_end (take held line) ≡ take held line → HoldsLine line held
holds_by line held e h u = record { room = e; within = h; unended = unended_by (take held line) u }

pub holds_whole : (line : List ℕ) (held : ℕ) → HoldsLine line held → before line_end (take held line) ≡ take held line
holds_whole line held h = before_unended h.unended

-- no byte is held at the start
pub holds_none : (line : List ℕ) → length line ≡ line_room → HoldsLine line 0
holds_none line e = record { room = e; within = omega arith; unended = nothing }

module _ (s : List ℕ) (from e : ℕ) (is : e ≡ line_end_at s from) (line : List ℕ) (held : ℕ) (hold : HoldsLine line held) (line' : List ℕ) (h : ℕ)
    (took : Appended line held (line_from s from) line' h) (t : Lent) (o : List ℕ) where
  pub turn_ended : (t' : Lent) (o' : List ℕ) (n : ℕ) → from < length s → e < length s → answer_room ≤ length o → Answers (take h line') t o t' o' n
      → Turned s from line held t o line' t' o' (e + 1) 0 n
  turn_ended t' o' n b l w a =
      let u = unended_before (drop from s) in
      let on : HoldsLine line' h = holds_on line held hold (line_from s from) line' h took u in
      record {
        on = omega arith;
        holds = holds_none line' on.room;
        taken = rw (chunk_ended s from e is l, a.leaves) (taken_here line held hold (line_from s from) line' h took u t (line_end ∷ drop (e + 1) s) ∙ taken_end (take h line') t (drop (e + 1) s));
        kept = λ k. rw a.leaves (answered_ready (take h line') t k);
        said = answer_text (answered (take h line') t);
        put = a.put;
        fits = omega (arith, answer_fits (take h line') t);
        rest =
            λ later. rw (chunk_ended s from e is l, append_assoc, a.leaves)
            (rest_part line held hold (line_from s from) line' h took u t (line_end ∷ drop (e + 1) s ++ later) ∙ rest_ended (take h line') t _ on.unended);
      }

  pub turn_open : from < length s → length s ≤ e → Turned s from line held t o line' t o e h 0
  turn_open b l =
      let u = unended_before (drop from s) in
      record {
        on = omega arith;
        holds = holds_on line held hold (line_from s from) line' h took u;
        taken =
            rw (drop_of_length-le s l, chunk_open s from e is l)
            (ap (taken_in (take held line) t) (sym (append-nil (line_from s from))) ∙ taken_here line held hold (line_from s from) line' h took u t []);
        kept = λ k. k;
        said = [];
        put = none o 0;
        fits = omega arith;
        rest = λ later. rw (drop_of_length-le s l, none_then, chunk_open s from e is l) (rest_part line held hold (line_from s from) line' h took u t later);
      }

-- ---- the end of the input

rest_last : (m : List ℕ) (t : Lent) → Unended m → 0 < length m → rest_text m t [] ≡ answer_text (answered m t) then report_text (answered m t).state.table
unfolding rest_text session_text lines_of
rest_last [] t u l = absurd (omega arith)
rest_last (b ∷ h) t u l = rw (lines_fronted u [], fronted_is b h [], append-nil)

pub finish_none : (line : List ℕ) (held : ℕ) (t : Lent) (o : List ℕ) → held ≡ 0 → Finished line held t o t o 0
unfolding rest_text session_text lines_of
finish_none line held t o e = record { kept = λ k. k; said = []; put = none o 0; fits = omega arith; rest = rw (e, none_then) }

pub finish_last : (line : List ℕ) (held : ℕ) (t : Lent) (o : List ℕ) (t' : Lent) (o' : List ℕ) (n : ℕ) → HoldsLine line held → (held ≡ 0 → ⊥) → answer_room ≤ length o
    → Answers (take held line) t o t' o' n → Finished line held t o t' o' n
finish_last line held t o t' o' n hold h w a =
    record {
      kept = λ k. rw a.leaves (answered_ready (take held line) t k);
      said = answer_text (answered (take held line) t);
      put = a.put;
      fits = omega (arith, answer_fits (take held line) t);
      rest = rw a.leaves (rest_last (take held line) t hold.unended (omega (arith, length-take held line, hold.room)));
    }

-- ---- a whole run

-- what was put at the start of a buffer that is long enough stands there
shown : (o x o' : List ℕ) (n : ℕ) → Appended o 0 x o' n → length x ≤ length o → take n o' ≡ x
shown o x o' n f h = let e : n ≡ length x = omega (arith, f.next) in rw (f.text, e) (take_put o x h)

-- what a run prints is what the session prints for the rest of the input, wherever that is cut
run_prints : {line : List ℕ} {held : ℕ} {t : Lent} {s : List ℕ} {from : ℕ} {ss : List (List ℕ)} {x : List ℕ} → ready t ≡ true → Run line held t s from ss x
    → x ≡ rest_text (take held line) t (drop from s ++ joined ss)
unfolding joined
run_prints g (turn a r) = rw (shown _ _ _ _ a.put a.fits) (ap (λ (y : List ℕ). a.said then y) (run_prints (a.kept g) r) ∙ sym (a.rest _))
run_prints {s = s} g (read h r) = rw (drop_of_length-le s h) (run_prints g r)
run_prints {s = s} g (end {t' = t'} h a w f) =
    rw (shown _ _ _ _ a.put a.fits, shown _ _ _ _ f (omega (arith, report_fits t' (a.kept g))), drop_of_length-le s h) (sym a.rest)

fresh_ready : ready fresh_table ≡ true
unfolding ready fresh_table state_fits
fresh_ready = rw (fresh_sound lines (omega arith) (omega arith), fresh_blocks, empty_room.0)

pub session_prints : (line : List ℕ) (ss : List (List ℕ)) (x : List ℕ) → Run line 0 fresh_table [] 0 ss x → x ≡ printed_text (joined ss)
unfolding printed_text fresh_table
session_prints line ss x r = run_prints fresh_ready r

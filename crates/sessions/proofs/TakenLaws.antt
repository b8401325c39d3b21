-- What is kept between two reads, taken line by line and chunk by chunk.
use Prim.Native.Nat.{ℕ, zero, suc, ◌≤◌, ◌+◌}
use mathlib.Core.Path.{◌≡◌, refl, sym, ap, ◌∙◌}
use mathlib.Core.Bool.{Bool, true, false, not}
use mathlib.Core.Logic.{inl, inr}
use mathlib.Core.List.{List, [], ◌∷◌, ◌++◌, append_assoc, append-nil}
use native.Mathlib.Omega.{arith}
use lib.ListN.{length, take, drop, length-take, drop_of_length-le}
use lib.Seq.{take_all}
use lib.Dec.{eqb}
use borrow.Author.Tests.{eqb-true, not-false}
use Rattle.base.specs.Pick.{pick}
use Rattle.sessions.specs.Lines.{line_end, Unended, nothing, byte}
use Rattle.sessions.specs.Session.{Lent, answered, left_by, line_room, Between, between, taken_in, read_so_far, Ended, ended, most_reads, Turned, Took, Reads, Input}

-- of a list the first k bytes are enough to tell the first k of a longer one
take_again : (k : ℕ) (x y : List ℕ) → take k (take k x ++ y) ≡ take k (x ++ y)
take_again zero x y = refl
take_again (suc k) [] y = refl
take_again (suc k) (b ∷ x) y = ap (λ (l : List ℕ). b ∷ l) (take_again k x y)

-- a part of a line
pub taken_part : {g : List ℕ} → Unended g → (h : List ℕ) (t : Lent) (r : List ℕ) → length h ≤ line_room → taken_in h t (g ++ r) ≡ taken_in (take line_room (h ++ g)) t r
unfolding taken_in pick
taken_part nothing h t r l = ap (λ (x : List ℕ). taken_in x t r) (sym (take_all line_room h l) ∙ ap (take line_room) (sym (append-nil h)))
taken_part (byte {b} {s} e u) h t r l =
    let x : List ℕ = take line_room (h ++ (b ∷ [])) in
    let m : length x ≤ line_room = omega (arith, length-take line_room (h ++ (b ∷ []))) in
    let y : take line_room (x ++ s) ≡ take line_room (h ++ (b ∷ s)) = take_again line_room (h ++ (b ∷ [])) s ∙ ap (take line_room) (append_assoc h (b ∷ []) s) in
    rw e (taken_part u x t r m ∙ ap (λ (z : List ℕ). taken_in z t r) y)

-- a line's end
pub taken_end : (h : List ℕ) (t : Lent) (s : List ℕ) → taken_in h t (line_end ∷ s) ≡ taken_in [] (left_by (answered h t)) s
unfolding taken_in pick
taken_end h t s = refl

-- more input
abbrev onward : List ℕ → Between → Between
onward r x = taken_in x.held x.lending r

either : (x : Bool) (p q p' q' : Between) (r : List ℕ) → p' ≡ onward r p → q' ≡ onward r q → pick x p' q' ≡ onward r (pick x p q)
unfolding pick
either true p q p' q' r e f = e
either false p q p' q' r e f = f

pub taken_more : (h : List ℕ) (t : Lent) (s r : List ℕ) → taken_in h t (s ++ r) ≡ onward r (taken_in h t s)
unfolding taken_in
taken_more h t [] r = refl
taken_more h t (b ∷ s) r = either (eqb b line_end) _ _ _ _ r (taken_more [] (left_by (answered h t)) s r) (taken_more (take line_room (h ++ (b ∷ []))) t s r)

-- ---- a chunk, turn by turn

module _ (x : Between) (line : List ℕ) (h : ℕ) (t : Lent) (s : List ℕ) (from : ℕ) (inv : x ≡ taken_in (take h line) t (drop from s)) where
  pub chunk_goes : (o line' : List ℕ) (t' : Lent) (o' : List ℕ) (next h' size : ℕ) → Turned s from line h t o line' t' o' next h' size → x ≡ taken_in (take h' line') t' (drop next s)
  chunk_goes o line' t' o' next h' size r = inv ∙ r.taken

  pub chunk_ends : length s ≤ from → x ≡ between (take h line) t
  unfolding taken_in
  chunk_ends l = inv ∙ ap (taken_in (take h line) t) (drop_of_length-le s l)

-- ---- reads

-- what came in a read of n bytes
pub took_some : (line : List ℕ) (held : ℕ) (t : Lent) (line' : List ℕ) (t' : Lent) (held' n : ℕ) (buf : List ℕ) → n ≤ length buf
    → taken_in (take held line) t (take n buf) ≡ between (take held' line') t' → Took line held t line' t' (not (eqb n 0)) held'
took_some line held t line' t' held' n buf l e =
    let z : length (take n buf) ≡ n = omega (arith, length-take n buf) in
    record { chunk = take n buf; taken = e; on = ap (λ (k : ℕ). not (eqb k 0)) (sym z) }

pub reads_none : (t : Lent) (line : List ℕ) → Reads t 0 line t 0
unfolding taken_in read_so_far
reads_none t line = record { chunks = []; count = refl; taken = refl }

module _ (t : Lent) (n : ℕ) (line : List ℕ) (t₁ : Lent) (h : ℕ) (r : Reads t n line t₁ h) (line' : List ℕ) (t' : Lent) (more : Bool) (h' : ℕ) (k : Took line h t₁ line' t' more h') where
  joined : taken_in [] t (read_so_far (k.chunk ∷ r.chunks)) ≡ between (take h' line') t'
  unfolding read_so_far
  joined = taken_more [] t (read_so_far r.chunks) k.chunk ∙ ap (onward k.chunk) r.taken ∙ k.taken

  pub reads_on : Reads t (n + 1) line' t' h'
  reads_on = record { chunks = k.chunk ∷ r.chunks; count = omega (arith, r.count); taken = joined }

  pub reads_ended : more ≡ false → Input t line' t' h'
  reads_ended f = record { chunks = k.chunk ∷ r.chunks; taken = joined; whole = inl (by k.chunk k.on) }
    where
      by : (s : List ℕ) → more ≡ not (eqb (length s) 0) → Ended (s ∷ r.chunks)
      by [] e = ended
      by (b ∷ s) e = absurd (omega (arith, eqb-true (length (b ∷ s)) 0 (not-false _ (sym e ∙ f))))

pub reads_all : (t : Lent) (n : ℕ) (line : List ℕ) (t₁ : Lent) (h : ℕ) → Reads t n line t₁ h → n ≡ most_reads → Input t line t₁ h
reads_all t n line t₁ h r e = record { chunks = r.chunks; taken = r.taken; whole = inr (r.count ∙ e) }

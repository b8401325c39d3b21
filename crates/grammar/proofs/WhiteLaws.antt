-- White space is read exactly as the grammar derives it, and read whole.
use Rattle.std.specs.Prelude.{Some}
use Prim.Native.Nat.{ℕ, suc, ◌+◌, ◌<◌}
use mathlib.Core.Path.{◌≡◌, refl, sym, ap, ◌∙◌}
use mathlib.Core.Logic.{◌⊎◌, inl, inr}
use mathlib.Core.Bool.{Bool, true, false, not, ◌&&◌, ◌||◌}
use mathlib.Core.List.{List, [], ◌∷◌, ◌++◌, append_assoc}
use lib.ListN.{length, drop, length-append}
use lib.Dec.{eqb, ltb, leb}
use borrow.Author.Tests.{eqb-true, ne_eqb, leb-true, lt-ltb, ltb-true}
use native.Mathlib.Omega.{arith}
use native.Mathlib.Nat.{add-zero, add_assoc}
use Rattle.base.specs.Pick.{pick}
use Rattle.megaco.specs.Bytes.{semicolon, is_white, is_line_end, is_comment}
use Rattle.megaco.specs.White.{after, goes_on, inside_after, stop_at, white_from, white_at, sep_at}
use Rattle.grammar.specs.Characters.{SP, HTAB, CommentChar, Many, no_more, and_then}
use Rattle.grammar.specs.Grammar.{EOL, CR, CRLF, LF, comment, Blank, blank_wsp, blank_comment, blank_eol, LWSP, no_lwsp, more_lwsp, SEP, sep}
use Rattle.grammar.proofs.Classes.{or_true, or_only, and_parts, comment_tests}
use Rattle.grammar.proofs.Places.{head, Stands, Finds, finds, behind_at, fault_next, next_same, pick_next, after_next}

-- no white space stands here
abbrev pub Solid : List ℕ → Type 0
Solid rest = goes_on false (head rest) ≡ false

pub solid_end : Solid []
unfolding goes_on is_white
solid_end = refl

-- white space and then white space
pub white_append : {a b : List ℕ} → LWSP a → LWSP b → LWSP (a ++ b)
white_append no_lwsp w = w
white_append {b} (more_lwsp {a} {b = c} x v) w = rw (append_assoc a c b) (more_lwsp x (white_append v w))

-- ---- the grammar's white space is read

-- a comment's bytes end no line
not_end : (b : ℕ) → is_comment b ≡ true → is_line_end b ≡ false
unfolding is_comment is_line_end
not_end b e = go (or_true _ _ e)
  where
    both : (b ≡ 0x0d → ⊥) → (b ≡ 0x0a → ⊥) → is_line_end b ≡ false
    both h k = rw (ne_eqb b 0x0d h, ne_eqb b 0x0a k)

    go : (eqb b 0x09 ≡ true) ⊎ (leb 0x20 b && leb b 0x7e ≡ true) → is_line_end b ≡ false
    go (inl h) = let p = eqb-true b 0x09 h in both (λ q. omega arith) (λ q. omega arith)
    go (inr h) = let p = leb-true 0x20 b (and_parts (leb 0x20 b) _ h).0 in both (λ q. omega arith) (λ q. omega arith)

comment_run : {a : List ℕ} (t : List ℕ) (n : ℕ) → Many CommentChar a → white_from (a ++ t) n true ≡ white_from t (n + length a) true
unfolding white_from goes_on inside_after pick
comment_run t n no_more = rw (add-zero n)
comment_run t n (and_then {b} {bs} c m) =
    let e : is_comment b ≡ true = comment_tests.passes b c in
    let k : n + 1 + length bs ≡ n + suc (length bs) = omega arith in
    rw (e, not_end b e, ← k) (comment_run t (n + 1) m)

eol_run : {a : List ℕ} (t : List ℕ) (n : ℕ) (inside : Bool) → EOL a → white_from (a ++ t) n inside ≡ white_from t (n + length a) false
unfolding white_from goes_on inside_after is_comment is_line_end is_white pick
eol_run t n true CR = refl
eol_run t n false CR = refl
eol_run t n true CRLF = rw (add_assoc n 1 1)
eol_run t n false CRLF = rw (add_assoc n 1 1)
eol_run t n true LF = refl
eol_run t n false LF = refl

blank_run : {a : List ℕ} (t : List ℕ) (n : ℕ) → Blank a → white_from (a ++ t) n false ≡ white_from t (n + length a) false
unfolding white_from goes_on inside_after is_white is_line_end is_comment pick
blank_run t n (blank_wsp SP) = refl
blank_run t n (blank_wsp HTAB) = refl
blank_run t n (blank_comment (comment {a} {b} m e)) =
    let k : n + 1 + length a + length b ≡ n + length (semicolon ∷ a ++ b) = rw (length-append a b) (omega arith) in
    rw (append_assoc a b t, ← k) (comment_run (b ++ t) (n + 1) m ∙ eol_run t (n + 1 + length a) true e)
blank_run t n (blank_eol e) = eol_run t n false e

white_run : {a : List ℕ} (t : List ℕ) (n : ℕ) → LWSP a → white_from (a ++ t) n false ≡ white_from t (n + length a) false
white_run t n no_lwsp = rw (add-zero n)
white_run t n (more_lwsp {a} {b} x w) =
    let k : n + length a + length b ≡ n + length (a ++ b) = rw (length-append a b) (omega arith) in
    rw (append_assoc a b t, ← k) (blank_run (b ++ t) n x ∙ white_run t (n + length a) w)

white_stop : (t : List ℕ) (n : ℕ) → Solid t → white_from t n false ≡ Some n
unfolding white_from stop_at pick
white_stop [] n h = refl
white_stop (b ∷ t) n h = rw h

white_exact : (s rest : List ℕ) {a : List ℕ} (at : ℕ) → LWSP a → Solid rest → drop at s ≡ a ++ rest → white_at s at ≡ Some (at + length a)
unfolding white_at
white_exact s rest {a} at w h e = rw e (white_run rest at w ∙ white_stop rest (at + length a) h)

-- LWSP, where no more white space follows
pub white_complete : (s rest : List ℕ) {a : List ℕ} (at : ℕ) → LWSP a → Solid rest → drop at s ≡ a ++ rest → Finds s (white_at s at) rest
white_complete s rest {a} at w h e = finds s a rest at _ e (white_exact s rest at w h e)

blank_long : {a : List ℕ} → Blank a → 0 < length a
blank_long (blank_wsp w) = omega arith
blank_long (blank_comment (comment m e)) = omega arith
blank_long (blank_eol CR) = omega arith
blank_long (blank_eol CRLF) = omega arith
blank_long (blank_eol LF) = omega arith

-- SEP likewise
pub sep_complete : (s rest : List ℕ) {a : List ℕ} (at : ℕ) → SEP a → Solid rest → drop at s ≡ a ++ rest → Finds s (sep_at s at) rest
unfolding sep_at after pick
sep_complete s rest at (sep {a} {b} x w) h e =
    let k : at < at + length (a ++ b) = rw (length-append a b) (omega (arith, blank_long x)) in
    finds s (a ++ b) rest at _ e (rw (white_exact s rest at (more_lwsp x w) h e, lt-ltb _ _ k))

-- ---- what is read is white space of the grammar

-- the rest of a comment, and white space behind it
data Inside : List ℕ → Type 0 where
  inside_of : {a b c : List ℕ} → Many CommentChar a → EOL b → LWSP c → Inside (a ++ b ++ c)

-- white space from within a comment, or from outside
abbrev Run : Bool → List ℕ → Type 0
Run true a = Inside a
Run false a = LWSP a

record White (inside : Bool) (t : List ℕ) (n e : ℕ) : Type 0 where
  bytes : List ℕ
  rest : List ℕ
  runs : Run inside bytes
  split : t ≡ bytes ++ rest
  long : e ≡ n + length bytes
  solid : Solid rest

char_inside : {b : ℕ} {a : List ℕ} → CommentChar b → Inside a → Inside (b ∷ a)
char_inside c (inside_of m e w) = inside_of (and_then c m) e w

comment_white : {a : List ℕ} → Inside a → LWSP (semicolon ∷ a)
comment_white (inside_of m e w) = more_lwsp (blank_comment (comment m e)) w

line_end_lem : (b : ℕ) → is_line_end b ≡ true → EOL (b ∷ [])
unfolding is_line_end
line_end_lem b h = go (or_true _ _ h)
  where
    go : (eqb b 0x0d ≡ true) ⊎ (eqb b 0x0a ≡ true) → EOL (b ∷ [])
    go (inl e) = rw (eqb-true b 0x0d e) CR
    go (inr e) = rw (eqb-true b 0x0a e) LF

blank_byte : (b : ℕ) → is_white b ≡ true → Blank (b ∷ [])
unfolding is_white
blank_byte b h = lf (or_true _ _ h)
  where
    tab : (eqb b 0x20 ≡ true) ⊎ (eqb b 0x09 ≡ true) → Blank (b ∷ [])
    tab (inl e) = rw (eqb-true b 0x20 e) (blank_wsp SP)
    tab (inr e) = rw (eqb-true b 0x09 e) (blank_wsp HTAB)

    cr : (eqb b 0x20 || eqb b 0x09 ≡ true) ⊎ (eqb b 0x0d ≡ true) → Blank (b ∷ [])
    cr (inl e) = tab (or_true _ _ e)
    cr (inr e) = rw (eqb-true b 0x0d e) (blank_eol CR)

    lf : (eqb b 0x20 || eqb b 0x09 || eqb b 0x0d ≡ true) ⊎ (eqb b 0x0a ≡ true) → Blank (b ∷ [])
    lf (inl e) = cr (or_true _ _ e)
    lf (inr e) = rw (eqb-true b 0x0a e) (blank_eol LF)

-- one byte more
run_more : (inside : Bool) (b : ℕ) (a : List ℕ) → goes_on inside b ≡ true → Run (inside_after inside b) a → Run inside (b ∷ a)
unfolding goes_on inside_after
run_more true b a g r = go (is_line_end b) refl r
  where
    go : (x : Bool) → is_line_end b ≡ x → Run (not x || false) a → Inside (b ∷ a)
    go true e w = inside_of no_more (line_end_lem b e) w
    go false e i = char_inside (comment_tests.tells b (or_only (is_comment b) (is_line_end b) (or_only (is_comment b || is_line_end b) false g refl) e)) i
run_more false b a g r = go (eqb b semicolon) refl r
  where
    go : (x : Bool) → eqb b semicolon ≡ x → Run x a → LWSP (b ∷ a)
    go true e i = rw (eqb-true b semicolon e) (comment_white i)
    go false e w = more_lwsp (blank_byte b (or_only (is_white b) (eqb b semicolon) g e)) w

white_from_lem : (inside : Bool) (t : List ℕ) (n e : ℕ) → white_from t n inside ≡ Some e → White inside t n e
unfolding white_from stop_at pick
white_from_lem true [] n e h = absurd (fault_next h)
white_from_lem false [] n e h =
    record { bytes = []; rest = []; runs = no_lwsp; split = refl; long = rw (add-zero n) (sym (next_same h)); solid = solid_end }
white_from_lem inside (b ∷ t) n e h = go (goes_on inside b) refl (λ k. white_from_lem (inside_after inside b) t (n + 1) e (rw k at h))
  where
    here : (m : Bool) → stop_at m n ≡ Some e → goes_on m b ≡ false → White m (b ∷ t) n e
    here true f k = absurd (fault_next f)
    here false f k = record { bytes = []; rest = b ∷ t; runs = no_lwsp; split = refl; long = rw (add-zero n) (sym (next_same f)); solid = k }

    go : (x : Bool) → goes_on inside b ≡ x → (goes_on inside b ≡ true → White (inside_after inside b) t (n + 1) e) → White inside (b ∷ t) n e
    go true k r =
        let w = r k in
        record {
          bytes = b ∷ w.bytes;
          rest = w.rest;
          runs = run_more inside b w.bytes k w.runs;
          split = ap (λ l. b ∷ l)
              w.split;
          long = w.long ∙ omega arith;
          solid = w.solid;
        }
    go false k r = here inside (rw k at h) k

passed : (s : List ℕ) (at e : ℕ) (X : List ℕ → Type 0) (w : White false (drop at s) at e) → X w.bytes → Stands X Solid (drop at s) (drop e s)
passed s at e X w x =
    let k : drop e s ≡ w.rest = behind_at s w.bytes w.rest at e w.long w.split in
    record { bytes = w.bytes; derives = x; split = rw k w.split; stops = rw k w.solid }

pub white_sound : (s : List ℕ) (at e : ℕ) → white_at s at ≡ Some e → Stands LWSP Solid (drop at s) (drop e s)
unfolding white_at
white_sound s at e h = let w = white_from_lem false (drop at s) at e h in passed s at e LWSP w w.runs

long_sep : {a : List ℕ} → LWSP a → 0 < length a → SEP a
long_sep no_lwsp h = absurd (omega arith)
long_sep (more_lwsp x w) h = sep x w

pub sep_sound : (s : List ℕ) (at e : ℕ) → sep_at s at ≡ Some e → Stands SEP Solid (drop at s) (drop e s)
unfolding sep_at white_at
sep_sound s at e h = after_next _ _ e h (λ p f l.
    let k = pick_next (ltb at p) (Some p) e l in
    let w = white_from_lem false (drop at s) at e (f ∙ k.1) in
    passed s at e SEP w (long_sep w.runs (omega (arith, w.long, ltb-true at p k.0, next_same k.1))))

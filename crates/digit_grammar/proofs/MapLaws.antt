-- Maps: a list of alternatives in parentheses, or one alternative, of the grammar is read, and what is read is of the grammar.
use Rattle.std.specs.Prelude.{Some, None}
use Prim.Native.Nat.{ℕ, zero, suc, ◌+◌, ◌-◌, ◌≤◌}
use mathlib.Core.Path.{◌≡◌, refl, sym, ap, ◌∙◌}
use mathlib.Core.Bool.{Bool, true, false}
use mathlib.Core.List.{List, [], ◌∷◌, ◌++◌, append_assoc, append-nil}
use mathlib.Core.Option.{Option, none, some}
use lib.ListN.{length, drop, length-drop}
use lib.Seq.{drop-length}
use lib.Dec.{eqb}
use borrow.Author.Tests.{eqb-true, eq-eqb}
use native.Mathlib.Omega.{arith}
use Rattle.base.specs.Pick.{pick}
use Rattle.base.specs.Lists.{is_at}
use Rattle.megaco.specs.Bytes.{is_digit, is_white, capital}
use Rattle.megaco.specs.White.{goes_on, white_at}
use Rattle.megaco.specs.Tokens.{whole_at}
use Rattle.megaco.specs.Reading.{Read, got, fault}
use Rattle.protocol.specs.Types.{Parsed}
use Rattle.grammar.specs.Grammar.{LWSP, no_lwsp, Around, around, AtMost, at_most}
use Rattle.grammar.proofs.Places.{head, given, whether, is_at_head, is_at_cons}
use Rattle.grammar.proofs.WhiteLaws.{solid_end, white_complete, white_sound}
use Rattle.digits.specs.Symbols.{letter_of, symbol_of}
use Rattle.digits.specs.DigitMap.{left_paren, right_paren, bar, string_r, alternative_r, read, gone, onto, ends_at, list_f, bare_r, map_r}
use Rattle.digits.proofs.ReadLaws.{white_within, string_is}
use Rattle.digit_grammar.specs.DigitGrammar.{Alternative, digit_string_list, last_string, next_string, digit_map, one_string, list_of}
use Rattle.digit_grammar.proofs.SymbolLaws.{begins, begins_solid, begins_no_paren}
use Rattle.digit_grammar.proofs.SpanLaws.{step}
use Rattle.digit_grammar.proofs.SelectorLaws.{Left, kept, passed, Stop}
use Rattle.digit_grammar.proofs.StringLaws.{alternative_lead, alternative_string, alternative_reads, string_found, alternative_sound}

-- ---- what may stand behind an alternative

stop_end : Stop []
unfolding begins symbol_of letter_of is_digit capital goes_on is_white pick
stop_end = record { solid = refl; no_selector = refl; no_dot = refl }

stop_bar : (t : List ℕ) → Stop (bar ∷ t)
unfolding begins symbol_of letter_of is_digit capital goes_on is_white pick
stop_bar t = record { solid = refl; no_selector = refl; no_dot = refl }

stop_paren : (t : List ℕ) → Stop (right_paren ∷ t)
unfolding begins symbol_of letter_of is_digit capital goes_on is_white pick
stop_paren t = record { solid = refl; no_selector = refl; no_dot = refl }

-- ---- the end of a text

-- a place that nothing stands behind, and that is not past the end
at_end_lem : (s : List ℕ) (e : ℕ) → drop e s ≡ [] → e ≤ length s → e ≡ length s
at_end_lem s e h l = let n : length s - e ≡ 0 = sym (length-drop e s) ∙ ap length h in omega arith

white_whole : (z : List ℕ) → LWSP z → whole_at (white_at z 0) (length z) ≡ true
unfolding whole_at
white_whole z w = given (white_complete z [] 0 w solid_end (sym (append-nil z))) (λ g.
    rw g.is (eq-eqb g.end (length z) (at_end_lem z g.end g.leaves (white_within z 0 g.end g.is (omega arith)).1)))

whole_white : (z : List ℕ) → whole_at (white_at z 0) (length z) ≡ true → LWSP z
unfolding whole_at
whole_white z h = by (white_at z 0) refl h
  where
    by : (r : Parsed) → white_at z 0 ≡ r → whole_at r (length z) ≡ true → LWSP z
    by (Some p) i h = given (white_sound z 0 p i) (λ w.
        let e : z ≡ w.bytes = w.split ∙ rw (eqb-true p (length z) h, drop-length z) (append-nil w.bytes) in
        rw e w.derives)
    by None i h = let y : ◌≡◌ {A = ℕ} 0 1 = cc in absurd (omega arith)

-- ---- digitStringList and `)`

ends_here : (s z : List ℕ) (e : ℕ) → LWSP z → drop e s ≡ right_paren ∷ z → ends_at s e ≡ true
unfolding ends_at pick
ends_here s z e w h = rw (is_at_head s (right_paren ∷ z) e right_paren h, step s z e right_paren h) (white_whole z w)

module _ (k : ℕ) (s x : List ℕ) (e : ℕ) (i : alternative_r s ≡ got x e) where
  list_last : (z : List ℕ) → LWSP z → drop e s ≡ right_paren ∷ z → list_f (suc k) s ≡ some (x ∷ [])
  unfolding list_f read pick
  list_last z w h = rw (i, is_at_head s (right_paren ∷ z) e bar h, ends_here s z e w h)

  list_next : (z : List ℕ) (m : List (List ℕ)) → drop e s ≡ bar ∷ z → list_f k z ≡ some m → list_f (suc k) s ≡ some (x ∷ m)
  unfolding list_f read pick onto
  list_next z m h f = rw (i, is_at_head s (bar ∷ z) e bar h, step s z e bar h, f)

list_reads : (k : ℕ) (s : List ℕ) {w b c : List ℕ} {m : List (List ℕ)} → LWSP w → digit_string_list b m → length m ≤ k → Around right_paren c
    → s ≡ w ++ (b ++ c)
    → list_f k s ≡ some m
list_reads zero s u (last_string d) l o h = absurd (omega arith)
list_reads zero s u (next_string d y ys) l o h = absurd (omega arith)
list_reads (suc k) s u (last_string {x} d) l (around {b = z} i j) h =
    given (alternative_reads s (right_paren ∷ z) u d i (stop_paren z) h) (λ p. list_last k s x p.end p.is z j p.leaves)
list_reads (suc k) s {w} {c} u (next_string {a} {c = b} {x} {m} d (around {a = v} {b = z} i j) ys) l o h =
    let r = z ++ (b ++ c) in
    let g : s ≡ w ++ (a ++ (v ++ bar ∷ r)) = h ∙ simp append_assoc in
    given (alternative_reads s (bar ∷ r) u d i (stop_bar r) g) (λ p.
    list_next k s x p.end p.is r m p.leaves (list_reads k r j ys (omega arith) o refl))

-- ---- a map is read

map_list : (s r : List ℕ) (p : ℕ) (m : List (List ℕ)) → white_at s 0 ≡ Some p → drop p s ≡ left_paren ∷ r → list_f 16 r ≡ some m → map_r s ≡ some m
unfolding map_r gone pick
map_list s r p m i h f = rw (i, is_at_head s (left_paren ∷ r) p left_paren h, step s r p left_paren h, f)

map_bare : (s r x : List ℕ) (p : ℕ) → white_at s 0 ≡ Some p → drop p s ≡ r → eqb (head r) left_paren ≡ false → string_r s ≡ got x (length s)
    → map_r s ≡ some (x ∷ [])
unfolding map_r bare_r gone read pick
map_bare s r x p i h n f = rw (i, is_at_head s r p left_paren h, n, f, eq-eqb (length s) (length s) refl)

nothing_left : {rest : List ℕ} → Left [] [] rest → rest ≡ []
nothing_left kept = refl
nothing_left passed = refl

string_whole : (s : List ℕ) {x : List ℕ} → Alternative s x → string_r s ≡ got x (length s)
string_whole s {x} d = given (alternative_string s [] d no_lwsp stop_end (sym (append-nil s))) (λ z.
    let e : z.gets.end ≡ length s = at_end_lem s z.gets.end (z.gets.leaves ∙ nothing_left z.left)
    (string_is s x z.gets.end z.gets.is).inside in
    z.gets.is ∙ ap (got x) e)

pub map_reads : {s : List ℕ} {m : List (List ℕ)} → digit_map s m → map_r s ≡ some m
unfolding goes_on is_white
map_reads (one_string {a} {x} d) = given (alternative_lead d) (λ y.
    let f : begins (head y.bytes) ≡ true = rw (append-nil y.bytes) at (y.first []) in
    given (white_complete a y.bytes 0 y.is_white (begins_solid _ f) y.split) (λ p.
    map_bare a y.bytes x p.end p.is p.leaves (begins_no_paren _ f) (string_whole a d)))
map_reads (list_of {b} {c} {m} (around {a = u} {b = v} i j) (at_most ys l) o) =
    let r = v ++ (b ++ c) in
    given (white_complete ((u ++ left_paren ∷ v) ++ (b ++ c)) (left_paren ∷ r) 0 i refl (append_assoc u (left_paren ∷ v) (b ++ c))) (λ p.
    map_list _ r p.end m p.is p.leaves (list_reads 16 r j ys l o refl))

-- ---- what is read as a list

none_some : {A : Type 0} {m : A} → none ≡ some m → ⊥
none_some h = let z : ◌≡◌ {A = ℕ} 0 1 = cc in omega arith

some_same : {A : Type 0} {x y : A} → some x ≡ some y → x ≡ y
some_same h = cc

module _ {C : Type 0} {m : List (List ℕ)} where
  read_some : (r : Read (List ℕ)) (f : List ℕ → ℕ → Option (List (List ℕ))) → read r f ≡ some m
      → ((x : List ℕ) (e : ℕ) → r ≡ got x e → f x e ≡ some m → C) → C
  unfolding read
  read_some (got x e) f h k = k x e refl h
  read_some fault f h k = absurd (none_some h)

  gone_some : (r : Parsed) (f : ℕ → Option (List (List ℕ))) → gone r f ≡ some m → ((p : ℕ) → r ≡ Some p → f p ≡ some m → C) → C
  unfolding gone
  gone_some (Some p) f h k = k p refl h
  gone_some None f h k = absurd (none_some h)

  onto_some : (x : List ℕ) (r : Option (List (List ℕ))) → onto x r ≡ some m → ((l : List (List ℕ)) → r ≡ some l → x ∷ l ≡ m → C) → C
  unfolding onto
  onto_some x none h k = absurd (none_some h)
  onto_some x (some l) h k = k l refl (some_same h)

  pick_some : (t : Bool) (r : Option (List (List ℕ))) → pick t r none ≡ some m → (t ≡ true → r ≡ some m → C) → C
  unfolding pick
  pick_some true r h k = k refl h
  pick_some false r h k = absurd (none_some h)

record Listed (k : ℕ) (s : List ℕ) (m : List (List ℕ)) : Type 0 where
  white : List ℕ
  bytes : List ℕ
  close : List ℕ
  is_white : LWSP white
  derives : AtMost k digit_string_list bytes m
  closes : Around right_paren close
  split : s ≡ white ++ (bytes ++ close)

ends_sound : (s : List ℕ) (e : ℕ) → ends_at s e ≡ true → (z : List ℕ) × LWSP z × (drop e s ≡ right_paren ∷ z)
unfolding ends_at
ends_sound s e h = by (is_at s e right_paren) refl h
  where
    by : (t : Bool) → is_at s e right_paren ≡ t → pick t (whole_at (white_at (drop (e + 1) s) 0) (length (drop (e + 1) s))) false ≡ true
        → (z : List ℕ) × LWSP z × (drop e s ≡ right_paren ∷ z)
    by true i h = unfold pick in (drop (e + 1) s, whole_white (drop (e + 1) s) h, is_at_cons s e right_paren (omega arith) i)
    by false i h = unfold pick in let y : ◌≡◌ {A = ℕ} 0 1 = cc in absurd (omega arith)

list_joined : {k : ℕ} {a u z b x : List ℕ} {l m : List (List ℕ)} → Alternative a x → LWSP u → LWSP z → AtMost k digit_string_list b l → x ∷ l ≡ m
    → AtMost (suc k) digit_string_list (a ++ ((u ++ bar ∷ z) ++ b)) m
list_joined d i j (at_most ys n) e = rw (← e) (at_most (next_string d (around i j) ys) (omega arith))

list_sound : (k : ℕ) (s : List ℕ) (m : List (List ℕ)) → list_f k s ≡ some m → Listed k s m
unfolding list_f pick
list_sound zero s m h = absurd (none_some h)
list_sound (suc k) s m h = read_some (alternative_r s) _ h (λ x e i h. given (alternative_sound s x e i) (λ y. whether (is_at s e bar)
    (λ t. onto_some x (list_f k (drop (e + 1) s)) (rw t at h) (λ l f n. given (list_sound k (drop (e + 1) s) l f) (λ z. record {
      white = y.before;
      bytes = y.bytes ++ ((y.behind ++ bar ∷ z.white) ++ z.bytes);
      close = z.close;
      is_white = y.white_before;
      derives = list_joined y.derives y.white_behind z.is_white z.derives n;
      closes = z.closes;
      split = y.split ∙ rw (is_at_cons s e bar (omega arith) t, z.split) (simp append_assoc);
    })))
    (λ t. pick_some (ends_at s e) (some (x ∷ [])) (rw t at h) (λ f n. given (ends_sound s e f) (λ z. record {
      white = y.before;
      bytes = y.bytes;
      close = y.behind ++ right_paren ∷ z.0;
      is_white = y.white_before;
      derives = rw (← some_same n) (at_most (last_string y.derives) (omega arith));
      closes = around y.white_behind z.1;
      split = y.split ∙ rw z.2;
    })))))

-- ---- what is read as a map

bare_sound : (s : List ℕ) (m : List (List ℕ)) → bare_r s ≡ some m → digit_map s m
unfolding bare_r
bare_sound s m h = read_some (string_r s) _ h (λ x n i h. pick_some (eqb n (length s)) (some (x ∷ [])) h (λ t h.
    given (string_found s x n i) (λ y.
    let e : s ≡ y.bytes = y.split ∙ rw (eqb-true n (length s) t, drop-length s) (append-nil y.bytes) in
    rw (← some_same h) (one_string (rw (← e) at y.derives)))))

pub map_sound : (s : List ℕ) (m : List (List ℕ)) → map_r s ≡ some m → digit_map s m
unfolding map_r pick
map_sound s m h = gone_some (white_at s 0) _ h (λ p i h. whether (is_at s p left_paren)
    (λ t. given (white_sound s 0 p i) (λ w. given (list_sound 16 (drop (p + 1) s) m (rw t at h)) (λ z.
    let e : s ≡ (w.bytes ++ left_paren ∷ z.white) ++ (z.bytes ++ z.close) =
    w.split ∙ rw (is_at_cons s p left_paren (omega arith) t, z.split) (simp append_assoc) in
    rw e (list_of (around w.derives z.is_white) z.derives z.closes))))
    (λ t. bare_sound s m (rw t at h)))

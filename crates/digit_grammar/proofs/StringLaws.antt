-- Alternatives: a digitString of the grammar is read, with the white space round it, and what is read is a digitString.
use Rattle.std.specs.Prelude.{Some, None, Ok, Err}
use Prim.Native.Nat.{ℕ, zero, suc, ◌+◌, ◌-◌, ◌<◌, ◌≤◌}
use mathlib.Core.Path.{◌≡◌, refl, sym, ap, ◌∙◌}
use mathlib.Core.Bool.{Bool, true, false}
use mathlib.Core.List.{List, [], ◌∷◌, ◌++◌, append_assoc}
use lib.ListN.{length, drop}
use lib.Seq.{drop-drop}
use lib.Dec.{ltb}
use borrow.Author.Tests.{ltb-false, le-ltb}
use native.Mathlib.Omega.{arith}
use native.Mathlib.Nat.{add-zero}
use Rattle.base.specs.Pick.{pick}
use Rattle.megaco.specs.Bytes.{dot, is_digit, capital}
use Rattle.megaco.specs.White.{white_at}
use Rattle.megaco.specs.Reading.{Read, got, fault, bind, skip}
use Rattle.grammar.specs.Grammar.{LWSP, no_lwsp}
use Rattle.grammar.proofs.Places.{head, Finds, Gets, given, fault_got, got_same, skip_got, bind_got}
use Rattle.grammar.proofs.WhiteLaws.{Solid, white_append, white_complete, white_sound}
use Rattle.digits.specs.Symbols.{letter_of, symbol_of}
use Rattle.digits.specs.DigitMap.{left_bracket, right_bracket, element_at, element_then, string_f, some_of, string_r, alternative_r, SelectorRead, selector, absent}
use Rattle.digit_grammar.specs.DigitGrammar.{any_digit, set_of, digit_position, symbol_position, range_position, digit_string_element, no_dot, with_dot, digit_string, last_element, next_element, Alternative, alternative}
use Rattle.digit_grammar.proofs.SymbolLaws.{begins, begins_symbol, begins_x, begins_solid, begins_no_dot}
use Rattle.digit_grammar.proofs.SpanLaws.{Selects, Part}
use Rattle.digit_grammar.proofs.SelectorLaws.{Left, kept, passed, Stop, element_reads, element_absent, element_sound}

-- ---- white space that a part begins with may be left out

pub record Lead (X : List ℕ → Type 0) (a : List ℕ) : Type 0 where
  pub white : List ℕ
  pub bytes : List ℕ
  pub is_white : LWSP white
  pub derives : X bytes
  pub split : a ≡ white ++ bytes
  pub first : (rest : List ℕ) → begins (head (bytes ++ rest)) ≡ true

position_lead : {a : List ℕ} {set n : ℕ} → digit_position a set n → Lead (λ a. digit_position a set n) a
unfolding begins symbol_of letter_of is_digit capital pick
position_lead (symbol_position {b} x) =
    record { white = []; bytes = b ∷ []; is_white = no_lwsp; derives = symbol_position x; split = refl; first = λ rest. begins_symbol x }
position_lead (range_position (any_digit {b} e)) =
    record { white = []; bytes = b ∷ []; is_white = no_lwsp; derives = range_position (any_digit e); split = refl; first = λ rest. begins_x b e }
position_lead (range_position (set_of {a} {b} {c} {d} {e} x y z i v o)) = record {
  white = a;
  bytes = left_bracket ∷ (b ++ (c ++ (d ++ right_bracket ∷ e)));
  is_white = x;
  derives = range_position (set_of no_lwsp y z i v o);
  split = refl;
  first = λ rest. refl;
}

element_lead : {a : List ℕ} {set n : ℕ} → digit_string_element a set n → Lead (λ a. digit_string_element a set n) a
element_lead (no_dot x) = given (position_lead x) (λ y.
    record { white = y.white; bytes = y.bytes; is_white = y.is_white; derives = no_dot y.derives; split = y.split; first = y.first })
element_lead (with_dot x) = given (position_lead x) (λ y. record {
  white = y.white;
  bytes = y.bytes ++ dot ∷ [];
  is_white = y.is_white;
  derives = with_dot y.derives;
  split = rw y.split (append_assoc y.white y.bytes (dot ∷ []));
  first = λ rest. rw (append_assoc y.bytes (dot ∷ []) rest) (y.first (dot ∷ rest));
})

pub string_lead : {a x : List ℕ} {n : ℕ} → digit_string a x n → Lead (λ a. digit_string a x n) a
string_lead (last_element e) = given (element_lead e) (λ y.
    record { white = y.white; bytes = y.bytes; is_white = y.is_white; derives = last_element y.derives; split = y.split; first = y.first })
string_lead (next_element {b} e d) = given (element_lead e) (λ y. record {
  white = y.white;
  bytes = y.bytes ++ b;
  is_white = y.is_white;
  derives = next_element y.derives d;
  split = rw y.split (append_assoc y.white y.bytes b);
  first = λ rest. rw (append_assoc y.bytes b rest) (y.first (b ++ rest));
})

pub alternative_lead : {a x : List ℕ} → Alternative a x → Lead (λ a. Alternative a x) a
alternative_lead (alternative d l) = given (string_lead d) (λ y.
    record { white = y.white; bytes = y.bytes; is_white = y.is_white; derives = alternative y.derives l; split = y.split; first = y.first })

-- ---- characters

position_long : {a : List ℕ} {set n : ℕ} → digit_position a set n → 1 ≤ n
position_long (symbol_position x) = omega arith
position_long (range_position (any_digit e)) = omega arith
position_long (range_position (set_of x y z i v o)) = omega arith

element_long : {a : List ℕ} {set n : ℕ} → digit_string_element a set n → 1 ≤ n
element_long (no_dot x) = position_long x
element_long (with_dot x) = omega arith

string_long : {a x : List ℕ} {n : ℕ} → digit_string a x n → length x ≤ n
string_long (last_element e) = element_long e
string_long (next_element e d) = omega (arith, element_long e, string_long d)

-- ---- a digitString is read, with the white space behind it or without

pub record StringReads (s : List ℕ) (r : Read (List ℕ)) (x v t : List ℕ) : Type 0 where
  pub rest : List ℕ
  pub left : Left v t rest
  pub gets : Gets s r x rest

string_step : (k : ℕ) (s : List ℕ) (left set n p m : ℕ) (x : List ℕ) → element_at s ≡ selector set n p → n ≤ left
    → string_f k (drop p s) (left - n) ≡ got x m
    → string_f (suc k) s left ≡ got (set ∷ x) (p + m)
unfolding string_f element_then bind pick
string_step k s left set n p m x e l f = rw (e, le-ltb left n l, f)

string_stop : (k : ℕ) (s : List ℕ) (left : ℕ) → 0 < k → element_at s ≡ absent → string_f k s left ≡ got [] 0
unfolding string_f element_then
string_stop zero s left l e = absurd (omega arith)
string_stop (suc k) s left l e = rw e

left_absent : {v t rest : List ℕ} → Left v t rest → LWSP v → Stop t → element_at rest ≡ absent
left_absent {t} kept w x = element_absent t w x
left_absent {t} passed w x = element_absent t no_lwsp x

further : (s rest : List ℕ) (p m : ℕ) → drop m (drop p s) ≡ rest → drop (p + m) s ≡ rest
further s rest p m h = sym (drop-drop m p s) ∙ h

string_reads : (k : ℕ) (s : List ℕ) {a x v : List ℕ} {n : ℕ} (t : List ℕ) (left : ℕ) → digit_string a x n → n ≤ left → left ≤ 64 → length x < k
    → LWSP v → Stop t
    → s ≡ a ++ (v ++ t) → StringReads s (string_f k s left) x v t
string_reads zero s t left d l u c w o h = absurd (omega arith)
string_reads (suc k) s {v} t left (last_element {set} {n} e) l u c w o h = given (element_reads s v t e (omega arith) w o.solid o.no_dot h) (λ p.
    record {
      rest = p.rest;
      left = p.left;
      gets = record {
        end = p.selects.end + 0;
        is = string_step k s left set n p.selects.end 0 [] p.selects.is l
            (string_stop k (drop p.selects.end s) (left - n) (omega arith) (rw p.selects.leaves (left_absent p.left w o)));
        leaves = rw (add-zero p.selects.end) p.selects.leaves;
      };
    })
string_reads (suc k) s {v} t left (next_element {a} {b} {x} {set} {n} {m} e d) l u c w o h = given (string_lead d) (λ y.
    let r = y.bytes ++ (v ++ t) in
    let j : b ++ (v ++ t) ≡ y.white ++ r = rw y.split (append_assoc y.white y.bytes (v ++ t)) in
    given (element_reads s y.white r e (omega arith) y.is_white (begins_solid _ (y.first (v ++ t))) (begins_no_dot _ (y.first (v ++ t)))
    (h ∙ append_assoc a b (v ++ t) ∙ ap (λ z. a ++ z) j)) (λ p.
    joined p.selects (deeper p.left (drop p.selects.end s) p.selects.leaves j
    (λ i. string_reads k (drop p.selects.end s) t (left - n) d (omega arith) (omega arith) (omega arith) w o i)
    (λ i. string_reads k (drop p.selects.end s) t (left - n) y.derives (omega arith) (omega arith) (omega arith) w o i))))
  where
    deeper : {C : Type 0} {u r r' rest : List ℕ} → Left u r rest → (z : List ℕ) → z ≡ rest → r' ≡ u ++ r → (z ≡ r' → C) → (z ≡ r → C) → C
    deeper kept z i j f g = f (i ∙ sym j)
    deeper passed z i j f g = g i

    joined : {rest : List ℕ} (p : Selects s (element_at s) set n rest) → StringReads (drop p.end s) (string_f k (drop p.end s) (left - n)) x v t
        → StringReads s (string_f (suc k) s left) (set ∷ x) v t
    joined p z = record {
      rest = z.rest;
      left = z.left;
      gets = record {
        end = p.end + z.gets.end;
        is = string_step k s left set n p.end z.gets.end x p.is (omega arith) z.gets.is;
        leaves = further s z.rest p.end z.gets.end z.gets.leaves;
      };
    }

some_is : {a x : List ℕ} {n : ℕ} → digit_string a x n → (e : ℕ) → some_of x e ≡ got x e
unfolding some_of
some_is (last_element y) e = refl
some_is (next_element y d) e = refl

-- one of "1 to 64 characters"
pub alternative_string : (s : List ℕ) {a x v : List ℕ} (t : List ℕ) → Alternative a x → LWSP v → Stop t → s ≡ a ++ (v ++ t)
    → StringReads s (string_r s) x v t
unfolding string_r bind
alternative_string s t (alternative d l) w o h = given (string_reads 65 s t 64 d l (omega arith) (omega (arith, string_long d)) w o h) (λ z. record {
  rest = z.rest;
  left = z.left;
  gets = record { end = z.gets.end; is = rw z.gets.is (some_is d z.gets.end); leaves = z.gets.leaves };
})

-- ---- an alternative is read, with all the white space round it

left_white : {v t rest : List ℕ} (s : List ℕ) → Left v t rest → LWSP v → Solid t → s ≡ rest → Finds s (white_at s 0) t
left_white {t} s kept w k h = white_complete s t 0 w k h
left_white {t} s passed w k h = white_complete s t 0 no_lwsp k h

pub alternative_reads : (s : List ℕ) {a x w v : List ℕ} (t : List ℕ) → LWSP w → Alternative a x → LWSP v → Stop t → s ≡ w ++ (a ++ (v ++ t))
    → Gets s (alternative_r s) x t
unfolding alternative_r skip bind
alternative_reads s {a} {x} {w} {v} t i d j o h = given (alternative_lead d) (λ y.
    let r = y.bytes ++ (v ++ t) in
    let e : s ≡ (w ++ y.white) ++ r = h ∙ rw y.split (simp append_assoc) in
    given (white_complete s r 0 (white_append i y.is_white) (begins_solid _ (y.first (v ++ t))) e) (λ p.
    given (alternative_string (drop p.end s) t y.derives j o p.leaves) (λ z.
    let m = further s z.rest p.end z.gets.end z.gets.leaves in
    given (left_white (drop (p.end + z.gets.end) s) z.left j o.solid m) (λ q. record {
      end = p.end + z.gets.end + q.end;
      is = rw (p.is, z.gets.is, q.is);
      leaves = further s t (p.end + z.gets.end) q.end q.leaves;
    }))))

-- ---- what is read as a digitString

data Strung (s : List ℕ) (left : ℕ) : List ℕ → ℕ → Type 0 where
  nothing : Strung s left [] 0
  something : {a x : List ℕ} {n e : ℕ} → digit_string a x n → n ≤ left → s ≡ a ++ drop e s → Strung s left x e

string_sound : (k : ℕ) (s : List ℕ) (left : ℕ) (x : List ℕ) (e : ℕ) → string_f k s left ≡ got x e → Strung s left x e
unfolding string_f element_then
string_sound zero s left x e h = absurd (fault_got x e h)
string_sound (suc k) s left x e h = by (element_at s) refl h (λ p l y m f. string_sound k (drop p s) l y m f)
  where
    longer : (set n p m : ℕ) (y : List ℕ) → Part (λ a. digit_string_element a set n) s (drop p s) → n ≤ left → Strung (drop p s) (left - n) y m
        → Strung s left (set ∷ y) (p + m)
    longer set n p m y z l nothing = something {e = p + 0} (last_element z.derives) l (z.split ∙ rw (add-zero p))
    longer set n p m y z l (something {a} d i f) = something {e = p + m} (next_element z.derives d) (omega arith)
        (z.split ∙ rw f (rw (drop-drop m p s) (sym (append_assoc z.bytes a (drop (p + m) s)))))

    by : (z : SelectorRead) → element_at s ≡ z → element_then z left (λ p l. string_f k (drop p s) l) ≡ got x e
        → ((p l : ℕ) (y : List ℕ) (m : ℕ) → string_f k (drop p s) l ≡ got y m → Strung (drop p s) l y m) → Strung s left x e
    by (Ok (Some v)) i h f = fits (ltb left v.size) _ h (λ t h.
        bind_got x e (string_f k (drop v.next s) (left - v.size)) _ h (λ y m j h. given (got_same x e h) (λ z.
        rw (← z.0, ← z.1) (longer v.set v.size v.next m y (element_sound s v.set v.size v.next i) (ltb-false left v.size t) (f v.next (left - v.size) y m j)))))
      where
        fits : {C : Type 0} (t : Bool) (r : Read (List ℕ)) → pick t fault r ≡ got x e → (t ≡ false → r ≡ got x e → C) → C
        fits true r h k = unfold pick in absurd (fault_got x e h)
        fits false r h k = unfold pick in k refl h
    by (Ok None) i h f = given (got_same x e h) (λ z. rw (← z.0, ← z.1) nothing)
    by (Err bad) i h f = absurd (fault_got x e h)

pub string_found : (s x : List ℕ) (e : ℕ) → string_r s ≡ got x e → Part (λ a. Alternative a x) s (drop e s)
unfolding string_r
string_found s x e h = bind_got x e (string_f 65 s 64) some_of h (λ y p i h. by y p (string_sound 65 s 64 y p i) h)
  where
    some : (y : List ℕ) (p : ℕ) → some_of y p ≡ got x e → ((y ≡ []) → ⊥) × (got y p ≡ got x e)
    some [] p h = unfold some_of in absurd (fault_got x e h)
    some (z ∷ y) p h = unfold some_of in ((λ q. let n : ◌≡◌ {A = ℕ} 0 1 = cc in omega arith), h)

    by : (y : List ℕ) (p : ℕ) → Strung s 64 y p → some_of y p ≡ got x e → Part (λ a. Alternative a x) s (drop e s)
    by y p nothing h = absurd ((some [] 0 h).0 refl)
    by y p (something {a} d l f) h = given (got_same x e (some y p h).1) (λ z.
        record { bytes = a; derives = rw (← z.0) (alternative d l); split = f ∙ rw z.1 })

pub record Surrounded (x s rest : List ℕ) : Type 0 where
  pub before : List ℕ
  pub bytes : List ℕ
  pub behind : List ℕ
  pub white_before : LWSP before
  pub derives : Alternative bytes x
  pub white_behind : LWSP behind
  pub split : s ≡ before ++ (bytes ++ (behind ++ rest))

-- what is read as an alternative, with the white space round it
pub alternative_sound : (s x : List ℕ) (e : ℕ) → alternative_r s ≡ got x e → Surrounded x s (drop e s)
unfolding alternative_r
alternative_sound s x e h = skip_got x e (white_at s 0) _ h (λ p i h. given (white_sound s 0 p i) (λ w.
    bind_got x e (string_r (drop p s)) _ h (λ y n j h. given (string_found (drop p s) y n j) (λ z.
    skip_got x e (white_at (drop (p + n) s) 0) _ h (λ q k h. given (white_sound (drop (p + n) s) 0 q k) (λ v. given (got_same x e h) (λ f.
    let g : drop n (drop p s) ≡ v.bytes ++ drop q (drop (p + n) s) = drop-drop n p s ∙ v.split in
    record {
      before = w.bytes;
      bytes = z.bytes;
      behind = v.bytes;
      white_before = w.derives;
      derives = rw f.0 at z.derives;
      white_behind = v.derives;
      split = w.split ∙ rw (z.split, g, drop-drop q (p + n) s, f.1);
    })))))))

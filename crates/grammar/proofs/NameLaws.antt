-- Path names, terminations and values are read exactly as the grammar derives them.
use Rattle.std.specs.Prelude.{Some, None}
use Prim.Native.Nat.{ℕ, suc, ◌+◌, ◌-◌, ◌<◌, ◌≤◌}
use mathlib.Core.Path.{◌≡◌, refl, sym, ap, ◌∙◌}
use mathlib.Core.Logic.{◌⊎◌, inl, inr}
use mathlib.Core.Bool.{Bool, true, false, ◌||◌, false≢true}
use mathlib.Core.List.{List, [], ◌∷◌, ◌++◌, append_assoc}
use lib.ListN.{length, drop, length-append}
use lib.Dec.{eqb, ltb}
use borrow.Author.Tests.{ltb-true, lt-ltb}
use native.Mathlib.Omega.{arith}
use native.Mathlib.Nat.{add-zero}
use Rattle.base.specs.Pick.{pick}
use Rattle.base.specs.Lists.{is_at, part, every, has}
use Rattle.base.specs.Bytes.{text}
use Rattle.megaco.specs.Bytes.{quote, star, dollar, is_letter, is_digit, is_safe, is_rest, is_quoted, in_class}
use Rattle.megaco.specs.White.{after}
use Rattle.megaco.specs.Tokens.{mark_at, letter_at, row_at, up_to64, path_start, path_name_at, termination_at, quoted_at, plain_at, value_at}
use Rattle.megaco.specs.Tree.{Value, plain, quoted}
use Rattle.megaco.specs.Reading.{value_of}
use Rattle.protocol.specs.Types.{NameByte, SafeByte, QuotedByte}
use Rattle.grammar.specs.Characters.{AlphaDigitOr, or_alpha, or_digit, or_mark, SafeChar, Many, no_more, and_then}
use Rattle.grammar.specs.Grammar.{NAME, name, VALUE, quoted_string, safe_chars, Star, no_star, with_star, path_name, path, TerminationID, root, named, choose_one, all_of}
use Rattle.grammar.proofs.Classes.{or_true, test_not, letter_tells, name_tests, safe_tests, quoted_tests}
use Rattle.grammar.proofs.Places.{head, Any, Stands, behind, part_is, part_to, is_at_head, is_at_cons, next_same, pick_next, after_next}
use Rattle.grammar.proofs.RowLaws.{Stops, row_is, up_to_64, within_64, mark_exact, mark_sound, mark_next}
use Rattle.grammar.proofs.FollowLaws.{every_has}
use Rattle.grammar.proofs.WordLaws.{letter_at_lem, row_stands, name_many, name_letter, letters_name}

pub many_append : {X : ℕ → Type 0} {a b : List ℕ} → Many X a → Many X b → Many X (a ++ b)
many_append no_more m = m
many_append (and_then x n) m = and_then x (many_append n m)

many_map : {X Y : ℕ → Type 0} {a : List ℕ} → ((b : ℕ) → X b → Y b) → Many X a → Many Y a
many_map f no_more = no_more
many_map f (and_then {b} x n) = and_then (f b x) (many_map f n)

-- ---- path names

word_name : (b : ℕ) → AlphaDigitOr (text "_") b → AlphaDigitOr (text "/*_$") b
unfolding every has pick
word_name b (or_alpha h) = or_alpha h
word_name b (or_digit h) = or_digit h
word_name b (or_mark h) = or_mark (every_has (text "_") (λ x. has x (text "/*_$")) b refl h)

letter_not_star : (b : ℕ) → is_letter b ≡ true → eqb b star ≡ false
unfolding is_letter
letter_not_star b h = test_not is_letter b star refl h

start_is : (s t : List ℕ) {a : List ℕ} (at : ℕ) → Star a → eqb (head t) star ≡ false → drop at s ≡ a ++ t → path_start s at ≡ at + length a
unfolding path_start pick
start_is s t at no_star k h = rw (is_at_head s t at star h, k) (sym (add-zero at))
start_is s t at with_star k h = rw (is_at_head s (star ∷ t) at star h)

-- a path name's bytes: an optional star, a letter, then bytes of its class
path_exact : (s rest : List ℕ) {a b : List ℕ} (at : ℕ) → Star a → Many (AlphaDigitOr (text "/*_$")) b → is_letter (head (b ++ rest)) ≡ true
    → length (a ++ b) ≤ 64
    → Stops (in_class NameByte) rest → drop at s ≡ (a ++ b) ++ rest
    → (letter_at s (path_start s at) ≡ true) × (path_name_at s at ≡ Some (at + length (a ++ b)))
unfolding path_name_at pick
path_exact s rest {a} {b} at x m g l k h =
    let f : drop at s ≡ a ++ (b ++ rest) = h ∙ append_assoc a b rest in
    let q : path_start s at ≡ at + length a = start_is s (b ++ rest) at x (letter_not_star _ g) f in
    let d : drop (at + length a) s ≡ b ++ rest = behind s a (b ++ rest) at f in
    let i : letter_at s (at + length a) ≡ true = letter_at_lem s (b ++ rest) (at + length a) d ∙ g in
    let n : at + length a + length b ≡ at + length (a ++ b) = rw (length-append a b) (omega arith) in
    (rw q i, rw (q, i, row_is NameByte name_tests s rest (at + length a) m k d, n) (within_64 at (length (a ++ b)) l))

-- what the grammar's path name is made of
record PathBytes (t : List ℕ) : Type 0 where
  front : List ℕ
  back : List ℕ
  is : t ≡ front ++ back
  starred : Star front
  many : Many (AlphaDigitOr (text "/*_$")) back
  letter : (rest : List ℕ) → is_letter (head (back ++ rest)) ≡ true

path_bytes : {t : List ℕ} → path_name t → PathBytes t
path_bytes (path {a} {b} {c} x n m l) = record {
  front = a;
  back = b ++ c;
  is = append_assoc a b c;
  starred = x;
  many = many_append (many_map word_name (name_many n)) m;
  letter = λ rest. rw (append_assoc b c rest) (name_letter (c ++ rest) n);
}

path_short : {t : List ℕ} → path_name t → length t ≤ 64
path_short (path x n m l) = l

-- a path name begins with a byte of its class
pub path_first : {t : List ℕ} (rest : List ℕ) → path_name t → in_class NameByte (head (t ++ rest)) ≡ true
unfolding has pick
path_first rest (path no_star (name {b} h m k) n l) = name_tests.passes b (or_alpha h)
path_first rest (path with_star (name h m k) n l) = name_tests.passes star (or_mark refl)

pub path_complete : (s rest : List ℕ) {t : List ℕ} (at : ℕ) → path_name t → Stops (in_class NameByte) rest → drop at s ≡ t ++ rest
    → (letter_at s (path_start s at) ≡ true) × (path_name_at s at ≡ Some (at + length t))
path_complete s rest {t} at x k h =
    let p = path_bytes x in
    rw p.is (path_exact s rest at p.starred p.many (p.letter rest) (rw p.is at (path_short x)) k (h ∙ ap (λ l. l ++ rest) p.is))

path_of : {a b : List ℕ} (rest : List ℕ) → Star a → Many (AlphaDigitOr (text "/*_$")) b → is_letter (head (b ++ rest)) ≡ true
    → Stops (in_class NameByte) rest
    → length (a ++ b) ≤ 64 → path_name (a ++ b)
path_of rest x no_more g k l = absurd (false≢true (sym k ∙ name_tests.passes (head rest) (or_alpha (letter_tells (head rest) g))))
path_of rest no_star (and_then {b} y m) g k l = path no_star (name (letter_tells b g) no_more (omega arith)) m l
path_of rest with_star (and_then {b} y m) g k l = path with_star (name (letter_tells b g) no_more (omega arith)) m l

-- the optional star that stands here
start_sound : (s : List ℕ) (at : ℕ) → (a : List ℕ) × Star a × (drop at s ≡ a ++ drop (path_start s at) s) × (path_start s at ≡ at + length a)
unfolding path_start pick
start_sound s at = go (is_at s at star) refl
  where
    go : (t : Bool) → is_at s at star ≡ t
        → (a : List ℕ) × Star a × (drop at s ≡ a ++ drop (pick t (at + 1) at) s) × (pick t (at + 1) at ≡ at + length a)
    go true e = (star ∷ [], with_star, is_at_cons s at star (omega arith) e, refl)
    go false e = ([], no_star, refl, sym (add-zero at))

pub path_sound : (s : List ℕ) (at e : ℕ) → path_name_at s at ≡ Some e
    → Stands (λ a. path_name a × (part s at e ≡ a)) (Stops (in_class NameByte)) (drop at s) (drop e s)
unfolding path_name_at
path_sound s at e h = go (start_sound s at)
  where
    go : (a : List ℕ) × Star a × (drop at s ≡ a ++ drop (path_start s at) s) × (path_start s at ≡ at + length a)
        → Stands (λ a. path_name a × (part s at e ≡ a)) (Stops (in_class NameByte)) (drop at s) (drop e s)
    go (a, x, i, l) =
        let p = pick_next (letter_at s (path_start s at)) _ e h in
        let q = up_to_64 at (row_at NameByte s (path_start s at)) e p.1 in
        let r = row_stands NameByte name_tests s (path_start s at) e q.0 in
        let f : is_letter (head (r.bytes ++ drop e s)) ≡ true = sym (letter_at_lem s _ (path_start s at) r.split) ∙ p.0 in
        let n : length (a ++ r.bytes) ≡ length a + length r.bytes = length-append a r.bytes in
        let d : drop at s ≡ (a ++ r.bytes) ++ drop e s = i ∙ ap (λ t. a ++ t) r.split ∙ sym (append_assoc a r.bytes (drop e s)) in
        let g : e ≡ at + length (a ++ r.bytes) = omega (arith, r.derives.long, l, n) in
        record {
          bytes = a ++ r.bytes;
          derives = (
            path_of (drop e s) x r.derives.many f r.stops (omega (arith, g, q.0, q.1)),
            part_to s _
                (drop e s) at e g d,
          );
          split = d;
          stops = r.stops;
        }

-- ---- terminations

name_path : {a : List ℕ} → NAME a → path_name a
name_path (name h m l) = path no_star (name h no_more (omega arith)) (many_map word_name m) (omega arith)

no_letter : (rest : List ℕ) → Stops (in_class NameByte) rest → is_letter (head rest) ≡ false
no_letter rest k = go (is_letter (head rest)) refl
  where
    go : (t : Bool) → is_letter (head rest) ≡ t → t ≡ false
    go true e = absurd (false≢true (sym k ∙ name_tests.passes (head rest) (or_alpha (letter_tells (head rest) e))))
    go false e = refl

pub termination_exact : (s rest : List ℕ) {a : List ℕ} (at : ℕ) → TerminationID a → Stops (in_class NameByte) rest → drop at s ≡ a ++ rest
    → termination_at s at ≡ Some (at + length a)
unfolding termination_at path_start pick is_letter every
termination_exact s rest {a} at (root e) k h =
    let p = path_complete s rest at (name_path (letters_name a (text "ROOT") refl e)) k h in rw p.0 p.1
termination_exact s rest at (named x) k h = let p = path_complete s rest at x k h in rw p.0 p.1
termination_exact s rest at choose_one k h =
    rw (is_at_head s (dollar ∷ rest) at star h, letter_at_lem s (dollar ∷ rest) at h, is_at_head s (dollar ∷ rest) at dollar h)
termination_exact s rest at all_of k h =
    rw (is_at_head s (star ∷ rest) at star h, letter_at_lem s rest (at + 1) (behind s (star ∷ []) rest at h), no_letter rest k)

pub termination_sound : (s : List ℕ) (at e : ℕ) → termination_at s at ≡ Some e
    → Stands (λ a. TerminationID a × (part s at e ≡ a)) Any (drop at s) (drop e s)
unfolding termination_at pick
termination_sound s at e h = go (letter_at s (path_start s at)) h
  where
    one : (b : ℕ) → 0 < b → TerminationID (b ∷ []) → is_at s at b ≡ true → at + 1 ≡ e
        → Stands (λ a. TerminationID a × (part s at e ≡ a)) Any (drop at s) (drop e s)
    one b z x i l =
        let d : drop at s ≡ b ∷ drop e s = rw (← l) (is_at_cons s at b z i) in
        record { bytes = b ∷ []; derives = (x, part_to s (b ∷ []) (drop e s) at e (sym l) d); split = d; stops = tt }

    sign : (is_at s at star ≡ true) ⊎ (is_at s at dollar ≡ true) → at + 1 ≡ e
        → Stands (λ a. TerminationID a × (part s at e ≡ a)) Any (drop at s) (drop e s)
    sign (inl i) l = one star (omega arith) all_of i l
    sign (inr i) l = one dollar (omega arith) choose_one i l

    go : (t : Bool) → pick t (path_name_at s at) (pick (is_at s at star || is_at s at dollar) (Some (at + 1)) None) ≡ Some e
        → Stands (λ a. TerminationID a × (part s at e ≡ a)) Any (drop at s) (drop e s)
    go true f =
        let r = path_sound s at e f in record { bytes = r.bytes; derives = (named r.derives.0, r.derives.1); split = r.split; stops = tt }
    go false f = let p = pick_next _ (Some (at + 1)) e f in sign (or_true _ _ p.0) (next_same p.1)

-- ---- values

quote_not_quoted : in_class QuotedByte quote ≡ false
unfolding in_class is_quoted is_safe is_rest is_letter is_digit
quote_not_quoted = refl

quote_not_safe : in_class SafeByte quote ≡ false
unfolding in_class is_safe is_letter is_digit
quote_not_safe = refl

pub value_exact : (s rest : List ℕ) {a : List ℕ} {v : Value} (at : ℕ) → VALUE a v → Stops (in_class SafeByte) rest → drop at s ≡ a ++ rest
    → (value_at s at ≡ Some (at + length a)) × (value_of s at (at + length a) ≡ v)
unfolding value_at value_of quoted_at plain_at after pick
value_exact s rest at (quoted_string {a} m l) k h =
    let i : is_at s at quote ≡ true = is_at_head s _ at quote h in
    let f : drop (at + 1) s ≡ a ++ quote ∷ rest = behind s (quote ∷ []) _ at h ∙ append_assoc a (quote ∷ []) rest in
    let g : drop (at + 1 + length a) s ≡ quote ∷ rest = behind s a (quote ∷ rest) (at + 1) f in
    let n : length (a ++ quote ∷ []) ≡ length a + 1 = length-append a (quote ∷ []) in
    let o : at + 1 + length a + 1 ≡ at + suc (length (a ++ quote ∷ [])) = omega arith in
    let p : at + suc (length (a ++ quote ∷ [])) - 1 ≡ at + 1 + length a = omega arith in (
      rw (
        i,
        row_is QuotedByte quoted_tests s (quote ∷ rest) (at + 1) m quote_not_quoted f,
        within_64 (at + 1) (length a) l,
        mark_exact s
            (at + 1 + length a) quote rest g,
        o,
      ),
      rw (i, p, part_is s a (quote ∷ rest) (at + 1) f),
    )
value_exact s rest at (safe_chars {b} {bs} x m l) k h =
    let q : is_at s at quote ≡ false =
    is_at_head s (b ∷ bs ++ rest) at quote h ∙ test_not (in_class SafeByte) b quote quote_not_safe (safe_tests.passes b x) in
    let o : at < at + length (b ∷ bs) = omega arith in (
      rw (q, row_is SafeByte safe_tests s rest at (and_then x m) k h, lt-ltb _ _ o) (within_64 at (suc (length bs)) (omega arith)),
      rw
          (q, part_is s (b ∷ bs) rest at h),
    )

pub value_sound : (s : List ℕ) (at e : ℕ) → value_at s at ≡ Some e → Stands (λ a. VALUE a (value_of s at e)) Any (drop at s) (drop e s)
unfolding value_at value_of quoted_at plain_at pick
value_sound s at e h = go (is_at s at quote) refl h
  where
    safe : {a : List ℕ} → Many SafeChar a → 0 < length a → length a ≤ 64 → VALUE a (plain a)
    safe no_more o l = absurd (omega arith)
    safe (and_then x m) o l = safe_chars x m (omega arith)

    in_quotes : (p : ℕ) → drop at s ≡ quote ∷ drop (at + 1) s → up_to64 (at + 1) (row_at QuotedByte s (at + 1)) ≡ Some p → mark_at quote s p ≡ Some e
        → Stands (λ a. VALUE a (quoted (part s (at + 1) (e - 1)))) Any (drop at s) (drop e s)
    in_quotes p d u m =
        let q = up_to_64 (at + 1) (row_at QuotedByte s (at + 1)) p u in
        let r = row_stands QuotedByte quoted_tests s (at + 1) p q.0 in
        let k : e - 1 ≡ p = omega (arith, mark_next s p quote e m) in
        let v : part s (at + 1) (e - 1) ≡ r.bytes = ap (part s (at + 1)) k ∙ r.derives.is in
        record {
          bytes = quote ∷ r.bytes ++ quote ∷ [];
          derives = rw v (quoted_string r.derives.many (omega (arith, r.derives.long, q.0, q.1)));
          split =
              d ∙ ap (λ t. quote ∷ t) (r.split ∙ ap (λ t. r.bytes ++ t) (mark_sound s p quote e (omega arith) m)
              ∙ sym (append_assoc r.bytes (quote ∷ []) (drop e s)));
          stops = tt;
        }

    bare : (ltb at (row_at SafeByte s at) ≡ true) × (up_to64 at (row_at SafeByte s at) ≡ Some e)
        → Stands (λ a. VALUE a (plain (part s at e))) Any (drop at s) (drop e s)
    bare (o, u) =
        let q = up_to_64 at (row_at SafeByte s at) e u in
        let r = row_stands SafeByte safe_tests s at e q.0 in
        let n : at < e = rw q.0 at (ltb-true at (row_at SafeByte s at) o) in
        record {
          bytes = r.bytes;
          derives = rw r.derives.is (safe r.derives.many (omega (arith, r.derives.long))
              (omega (arith, r.derives.long, q.0, q.1)));
          split = r.split;
          stops = tt;
        }

    go : (t : Bool) → is_at s at quote ≡ t → pick t (quoted_at s at) (plain_at s at) ≡ Some e
        → Stands (λ a. VALUE a (pick t (quoted (part s (at + 1) (e - 1))) (plain (part s at e)))) Any (drop at s) (drop e s)
    go true i f = after_next _ _ e f (λ p. in_quotes p (is_at_cons s at quote (omega arith) i))
    go false i f = bare (pick_next _ _ e f)

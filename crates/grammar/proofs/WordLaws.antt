-- Words and keywords are read exactly as the grammar derives them.
use Rattle.std.specs.Prelude.{Some}
use Prim.Native.Nat.{ℕ, suc, ◌+◌, ◌-◌, ◌<◌, ◌≤◌}
use mathlib.Core.Path.{◌≡◌, refl, sym, ap, ◌∙◌}
use mathlib.Core.Logic.{◌⊎◌, inl, inr}
use mathlib.Core.Bool.{Bool, true, false, ◌&&◌, false≢true}
use mathlib.Core.List.{List, [], ◌∷◌, ◌++◌}
use lib.ListN.{length, drop}
use lib.Dec.{ltb, leb}
use borrow.Author.Tests.{eq-eqb, leb-true, ltb-true}
use native.Mathlib.Omega.{arith}
use Rattle.base.specs.Pick.{pick}
use Rattle.base.specs.Lists.{part, every, same}
use Rattle.base.specs.Bytes.{text}
use Rattle.megaco.specs.Bytes.{is_letter, in_class, capital, capitals}
use Rattle.megaco.specs.White.{after}
use Rattle.megaco.specs.Keywords.{Forms, forms, forms_of, spelt, spells}
use Rattle.megaco.specs.Tokens.{letter_at, row_at, word_at, keyword_at}
use Rattle.protocol.specs.Types.{Token, AuditToken, TransToken, CtxToken, PriorityToken, EmergencyToken, TopologyToken, IsolateToken, OnewayToken, BothwayToken, LocalToken, RemoteToken, Class, WordByte, ResponseAckToken}
use Rattle.base.proofs.TestLaws.{same_is, pick_both}
use Rattle.grammar.specs.Characters.{Spelling, long, short, Keyword, ALPHA, lower, AlphaDigitOr, or_alpha, Many, no_more, and_then}
use Rattle.grammar.specs.Grammar.{NAME, name}
use Rattle.grammar.proofs.Classes.{Tests, or_true, or_right, and_parts, letter_passes, letter_tells, word_tests}
use Rattle.grammar.proofs.Places.{head, at_head, Stands, Finds, finds, behind_at, part_is, next_same, pick_next, after_next}
use Rattle.grammar.proofs.RowLaws.{Stops, Row, row, row_is, up_to_64, within_64}

pub letter_at_lem : (s t : List ℕ) (at : ℕ) → drop at s ≡ t → letter_at s at ≡ is_letter (head t)
unfolding letter_at
letter_at_lem s t at h = rw (at_head s at, h)

-- ---- rows: the whole row stands from a place to its end

pub row_stands : (k : Class) {X : ℕ → Type 0} (c : Tests X (in_class k)) (s : List ℕ) (at e : ℕ) → row_at k s at ≡ e
    → Stands (λ a. record { many : Many X a; is : part s at e ≡ a; long : e ≡ at + length a }) (Stops (in_class k)) (drop at s) (drop e s)
row_stands k {X} c s at e h = go (row X (in_class k) c (drop at s))
  where
    go : Row X (in_class k) (drop at s)
        → Stands (λ a. record { many : Many X a; is : part s at e ≡ a; long : e ≡ at + length a }) (Stops (in_class k)) (drop at s) (drop e s)
    go r =
        let l : e ≡ at + length r.bytes = sym h ∙ row_is k c s r.rest at r.many r.stops r.split in
        let n : drop e s ≡ r.rest = behind_at s r.bytes r.rest at e l r.split in
        record {
          bytes = r.bytes;
          derives = record { many = r.many; is = rw l (part_is s r.bytes r.rest at r.split); long = l };
          split = rw n r.split;
          stops = rw n r.stops;
        }

-- ---- words

pub name_many : {a : List ℕ} → NAME a → Many (AlphaDigitOr (text "_")) a
name_many (name h m l) = and_then (or_alpha h) m

pub name_letter : {a : List ℕ} (rest : List ℕ) → NAME a → is_letter (head (a ++ rest)) ≡ true
name_letter rest (name {b} h m l) = letter_passes b h

pub name_short : {a : List ℕ} → NAME a → length a ≤ 64
name_short (name h m l) = omega arith

pub word_exact : (s rest : List ℕ) {a : List ℕ} (at : ℕ) → NAME a → Stops (in_class WordByte) rest → drop at s ≡ a ++ rest
    → word_at s at ≡ Some (at + length a)
unfolding word_at pick
word_exact s rest {a} at n k h =
    rw (letter_at_lem s (a ++ rest) at h, name_letter rest n, row_is WordByte word_tests s rest at (name_many n) k h)
    (within_64 at (length a) (name_short n))

-- a row of a word's bytes that begins with a letter is a word
many_name : {a : List ℕ} (rest : List ℕ) → Many (AlphaDigitOr (text "_")) a → is_letter (head (a ++ rest)) ≡ true → Stops (in_class WordByte) rest
    → length a ≤ 64 → NAME a
many_name rest no_more h k l = absurd (false≢true (sym k ∙ word_tests.passes (head rest) (or_alpha (letter_tells (head rest) h))))
many_name rest (and_then {b} x m) h k l = name (letter_tells b h) m (omega arith)

pub word_sound : (s : List ℕ) (at e : ℕ) → word_at s at ≡ Some e
    → Stands (λ a. NAME a × (part s at e ≡ a)) (Stops (in_class WordByte)) (drop at s) (drop e s)
unfolding word_at
word_sound s at e h =
    let p = pick_next (letter_at s at) _ e h in
    let q = up_to_64 at (row_at WordByte s at) e p.1 in
    let r = row_stands WordByte word_tests s at e q.0 in
    let f : is_letter (head (r.bytes ++ drop e s)) ≡ true = sym (letter_at_lem s _ at r.split) ∙ p.0 in
    record {
      bytes = r.bytes;
      derives = (
        many_name (drop e s) r.derives.many f r.stops
            (omega (arith, r.derives.long)),
        r.derives.is,
      );
      split = r.split;
      stops = r.stops;
    }

-- ---- keywords

same_refl : (a : List ℕ) → same a a ≡ true
unfolding same pick
same_refl [] = refl
same_refl (b ∷ a) = rw (eq-eqb b b refl) (same_refl a)

spelling_spelt : {f : Forms} {a : List ℕ} → Spelling f a → spelt f (capitals a) ≡ true
unfolding spelt
spelling_spelt (long {l} e) = rw (e, same_refl l)
spelling_spelt (short {l} {s} e) = rw e (or_right (same s l) (same s s) (same_refl s))

spelt_spelling : (f : Forms) (a : List ℕ) → spelt f (capitals a) ≡ true → Spelling f a
unfolding spelt
spelt_spelling (forms l s) a h = go (or_true _ _ h)
  where
    go : (same (capitals a) l ≡ true) ⊎ (same (capitals a) s ≡ true) → Spelling (forms l s) a
    go (inl e) = long (same_is (capitals a) l e)
    go (inr e) = short (same_is (capitals a) s e)

pub keyword_spells : (k : Token) (a : List ℕ) → Keyword k a → spells k a ≡ true
unfolding spells
keyword_spells k a x = spelling_spelt x

pub spells_keyword : (k : Token) (a : List ℕ) → spells k a ≡ true → Keyword k a
unfolding spells
spells_keyword k a e = spelt_spelling (forms_of k) a e

pub keyword_complete : (k : Token) (s rest : List ℕ) {a : List ℕ} (at : ℕ) → Keyword k a → NAME a → Stops (in_class WordByte) rest
    → drop at s ≡ a ++ rest → Finds s (keyword_at k s at) rest
unfolding keyword_at after pick
keyword_complete k s rest {a} at x n w h =
    finds s a rest at _ h (rw (word_exact s rest at n w h, part_is s a rest at h, keyword_spells k a x))

pub keyword_sound : (k : Token) (s : List ℕ) (at e : ℕ) → keyword_at k s at ≡ Some e
    → Stands (Keyword k) (Stops (in_class WordByte)) (drop at s) (drop e s)
unfolding keyword_at
keyword_sound k s at e h = after_next _ _ e h (λ p w l.
    let q = pick_next (spells k (part s at p)) (Some p) e l in
    let r = word_sound s at e (w ∙ q.1) in
    let z : part s at p ≡ r.bytes = ap (part s at) (next_same q.1) ∙ r.derives.1 in
    record { bytes = r.bytes; derives = spells_keyword k r.bytes (rw z at q.0); split = r.split; stops = r.stops })

-- ---- a keyword of letters is a word

pub capital_letter : (b : ℕ) → is_letter (capital b) ≡ true → ALPHA b
unfolding capital pick
capital_letter b h = go (leb 0x61 b && leb b 0x7a) refl h
  where
    go : (t : Bool) → leb 0x61 b && leb b 0x7a ≡ t → is_letter (pick t (b - 0x20) b) ≡ true → ALPHA b
    go true e k = let p = and_parts (leb 0x61 b) _ e in lower (leb-true _ _ p.0) (leb-true _ _ p.1)
    go false e k = letter_tells b k

letters_many : (a : List ℕ) → every is_letter (capitals a) ≡ true → Many (AlphaDigitOr (text "_")) a
unfolding every capitals
letters_many [] h = no_more
letters_many (b ∷ a) h = let p = pick_both (is_letter (capital b)) _ h in and_then (or_alpha (capital_letter b p.0)) (letters_many a p.1)

letters_word : (a : List ℕ) → every is_letter (capitals a) ≡ true → 0 < length a → length a ≤ 64 → NAME a
unfolding every capitals
letters_word [] h o l = absurd (omega arith)
letters_word (b ∷ a) h o l = let p = pick_both (is_letter (capital b)) _ h in name (capital_letter b p.0) (letters_many a p.1) (omega arith)

capitals_long : (a : List ℕ) → length (capitals a) ≡ length a
unfolding capitals
capitals_long [] = refl
capitals_long (b ∷ a) = ap suc (capitals_long a)

-- one to 64 letters
abbrev pub letters_only : List ℕ → Bool
letters_only l = every is_letter l && (ltb 0 (length l) && leb (length l) 64)

pub letters_name : (a l : List ℕ) → letters_only l ≡ true → capitals a ≡ l → NAME a
letters_name a l t e =
    let p = and_parts (every is_letter l) _ t in
    let q = and_parts (ltb 0 (length l)) _ p.1 in
    let k : length a ≡ length l = sym (capitals_long a) ∙ ap length e in
    letters_word a (rw e p.0) (omega (arith, ltb-true 0 (length l) q.0)) (omega (arith, leb-true (length l) 64 q.1))

-- a keyword with two forms of letters
abbrev letters_forms : Forms → Bool
letters_forms (forms l s) = letters_only l && letters_only s

spelling_name : {f : Forms} {a : List ℕ} → Spelling f a → letters_forms f ≡ true → NAME a
spelling_name {a} (long {l} {s} e) t = letters_name a l (and_parts (letters_only l) _ t).0 e
spelling_name {a} (short {l} {s} e) t = letters_name a s (and_parts (letters_only l) _ t).1 e

pub trans_name : {a : List ℕ} → Keyword TransToken a → NAME a
unfolding forms_of every pick is_letter
trans_name x = spelling_name x refl

pub ack_name : {a : List ℕ} → Keyword ResponseAckToken a → NAME a
unfolding forms_of every pick is_letter
ack_name x = spelling_name x refl

pub context_name : {a : List ℕ} → Keyword CtxToken a → NAME a
unfolding forms_of every pick is_letter
context_name x = spelling_name x refl

pub priority_name : {a : List ℕ} → Keyword PriorityToken a → NAME a
unfolding forms_of every pick is_letter
priority_name x = spelling_name x refl

pub emergency_name : {a : List ℕ} → Keyword EmergencyToken a → NAME a
unfolding forms_of every pick is_letter
emergency_name x = spelling_name x refl

pub audit_name : {a : List ℕ} → Keyword AuditToken a → NAME a
unfolding forms_of every pick is_letter
audit_name x = spelling_name x refl

pub topology_name : {a : List ℕ} → Keyword TopologyToken a → NAME a
unfolding forms_of every pick is_letter
topology_name x = spelling_name x refl

pub isolate_name : {a : List ℕ} → Keyword IsolateToken a → NAME a
unfolding forms_of every pick is_letter
isolate_name x = spelling_name x refl

pub oneway_name : {a : List ℕ} → Keyword OnewayToken a → NAME a
unfolding forms_of every pick is_letter
oneway_name x = spelling_name x refl

pub bothway_name : {a : List ℕ} → Keyword BothwayToken a → NAME a
unfolding forms_of every pick is_letter
bothway_name x = spelling_name x refl

pub local_name : {a : List ℕ} → Keyword LocalToken a → NAME a
unfolding forms_of every pick is_letter
local_name x = spelling_name x refl

pub remote_name : {a : List ℕ} → Keyword RemoteToken a → NAME a
unfolding forms_of every pick is_letter
remote_name x = spelling_name x refl

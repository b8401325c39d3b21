-- Items of every level are read exactly as the grammar derives them.
use Rattle.std.specs.Prelude.{Some}
use Prim.Native.Nat.{ℕ, zero, suc, ◌+◌}
use mathlib.Core.Path.{◌≡◌, refl, sym, ap, ◌∙◌}
use mathlib.Core.Bool.{Bool, true, false, ◌&&◌, and-false, false≢true}
use mathlib.Core.List.{List, [], ◌∷◌, ◌++◌, append_assoc, append-nil}
use mathlib.Core.Option.{Option, none, some}
use lib.ListN.{length, drop}
use lib.Dec.{eqb}
use borrow.Author.Tests.{eqb-true}
use native.Mathlib.Omega.{arith}
use Rattle.base.specs.Pick.{pick}
use Rattle.base.specs.Lists.{is_at, every, has}
use Rattle.base.specs.Bytes.{text}
use Rattle.megaco.specs.Bytes.{equal, left_brace, right_brace, slash, is_letter, is_digit, is_word, is_white, in_class}
use Rattle.megaco.specs.White.{goes_on}
use Rattle.megaco.specs.Tokens.{sign_at, value_at}
use Rattle.megaco.specs.Tree.{Value, ItemOf, item, Item}
use Rattle.megaco.specs.Items.{called}
use Rattle.megaco.specs.Reading.{Read, got, reading, spaced, word_r, second_r, value_of, value_r, braces_r, may_be_empty, or_none_r, item_r, items_r}
use Rattle.protocol.specs.Types.{AuditToken, WordByte, SafeByte}
use Rattle.grammar.specs.Characters.{Keyword}
use Rattle.grammar.specs.Grammar.{LWSP, no_lwsp, around, NAME, name, VALUE, quoted_string, safe_chars, ItemID, no_item_id, item_id, parm_value, no_value, with_value, Commas, single, joined, LBRKT, RBRKT, Braces, no_braces, with_braces, audit_descriptor, empty_audit, amm_parameter, parameter, audit, amm_parameters}
use Rattle.grammar.proofs.Classes.{and_parts, test_not, letter_passes, safe_tests}
use Rattle.grammar.proofs.Places.{regroup3, regroup4, regroup_braces, head, Gets, gets_here, gets_skip, gets_bind, behind, is_at_head, is_at_cons, whether, given, fault_got, got_same, skip_got, bind_got, reading_got}
use Rattle.grammar.proofs.WhiteLaws.{Solid, white_append, white_sound}
use Rattle.grammar.proofs.RowLaws.{Stops, After, after_sign, sign_complete, sign_sound}
use Rattle.grammar.proofs.FollowLaws.{Follow, ends, signs, closing, follow_not, follow_in, signs_solid, closing_signs, white_ends, ends_word, ends_safe, letter_solid, safe_solid}
use Rattle.grammar.proofs.WordLaws.{name_letter, keyword_spells, spells_keyword, audit_name}
use Rattle.grammar.proofs.NameLaws.{value_exact, value_sound}
use Rattle.grammar.proofs.ListLaws.{Spaced, gets_spaced, spaced_got, gets_word, word_got, Complete, Sound, list_complete_all, list_sound_all}

-- white space, then a sign from which a reader goes on
pub record Led {A : Type 0} (s t : List ℕ) (by : List ℕ) (r : ℕ → Read A) (x : A) (rest : List ℕ) : Type 0 where
  pub white : List ℕ
  pub body : List ℕ
  pub split : t ≡ white ++ body
  pub is_white : LWSP white
  pub sign : Follow by body
  pub reads : (at : ℕ) → drop at s ≡ body → Gets s (r at) x rest

-- ---- what a part begins with is no white space

pub name_solid : {a : List ℕ} (t : List ℕ) → NAME a → Solid (a ++ t)
name_solid t (name {b} h m l) = letter_solid b (letter_passes b h)

value_solid : {a : List ℕ} {v : Value} (t : List ℕ) → VALUE a v → Solid (a ++ t)
unfolding goes_on is_white
value_solid t (quoted_string m l) = refl
value_solid t (safe_chars {b} x m l) = safe_solid b (safe_tests.passes b x)

-- what stands in braces does not begin with `}`
pub record Filled {A : Type 0} (X : List ℕ → List A → Type 0) : Type 0 where
  pub first : (a t : List ℕ) (xs : List A) → X a xs → eqb (head (a ++ t)) right_brace ≡ false

-- ---- complete

module _ (s : List ℕ) where
  -- "optional `{` items `}`"
  pub braces_led : {A : Type 0} {X : List ℕ → List A → Type 0} {inner : ℕ → Read (List A)} {c w rest : List ℕ} {is : Option (List A)}
      → Complete X (text "}") s inner → Braces X c is → LWSP w → Follow closing rest → Led s (c ++ (w ++ rest)) (text "{,}") (braces_r inner s) is rest
  unfolding braces_r every has pick
  braces_led {w} {rest} c no_braces v f = record {
    white = w;
    body = rest;
    split = refl;
    is_white = v;
    sign = follow_in (text "{,}") refl f;
    reads = λ at h. rw (is_at_head s rest at left_brace h, follow_not (λ b. eqb b left_brace) refl f) (gets_here s none at rest h);
  }
  braces_led {inner} {w} {rest} c (with_braces {b} {xs} (around {a = u₁} {b = v₁} i j) y (around {a = u₂} {b = v₂} k l)) v f =
      let t₂ = right_brace ∷ v₂ ++ (w ++ rest) in
      let t₁ = left_brace ∷ v₁ ++ (b ++ (u₂ ++ t₂)) in
      record {
        white = u₁;
        body = t₁;
        is_white = i;
        sign = record { first = refl };
        split = regroup_braces u₁ (left_brace ∷ v₁) b u₂ (right_brace ∷ v₂) (w ++ rest);
        reads = λ at h. rw (is_at_head s t₁ at left_brace h) (
            gets_skip s (sign_at left_brace s at) _ (sign_complete s at left_brace (b ++ (u₂ ++ t₂)) j (c.solid b (u₂ ++ t₂) xs y) h) (λ p m.
            gets_bind s xs (inner p) _ (c.reads b u₂ t₂ xs p y k (record { first = refl }) m) (λ q n.
            gets_skip s (sign_at right_brace s q) _ (sign_complete s q right_brace rest (white_append l v) (signs_solid (closing_signs f))
            (n ∙ sym (append_assoc (right_brace ∷ v₂) w rest))) (λ e o.
            gets_here s (some xs) e rest o))));
      }

  -- where the braces may be empty, items are read as elsewhere: they do not begin with `}`
  or_none_complete : {A : Type 0} {X : List ℕ → List A → Type 0} {inner : ℕ → Read (List A)} (empty : Bool) → Complete X (text "}") s inner → Filled X
      → Complete X (text "}") s (or_none_r empty inner s)
  unfolding or_none_r pick
  or_none_complete {X} {inner} empty c f = record {
    solid = c.solid;
    reads = λ a w rest xs at y v g h.
        rw (is_at_head s (a ++ (w ++ rest)) at right_brace h, f.first a (w ++ rest) xs y, and-false empty) (c.reads a w rest xs at y v g h);
  }

  -- and empty braces
  empty_led : {A : Type 0} (inner : ℕ → Read (List A)) {c d w rest : List ℕ} {empty : Bool} → empty ≡ true
      → LBRKT c → RBRKT d → LWSP w → Follow closing rest
      → Led s ((c ++ d) ++ (w ++ rest)) (text "{,}") (braces_r (or_none_r empty inner s) s) (some []) rest
  unfolding braces_r or_none_r every has pick goes_on is_white
  empty_led inner {w} {rest} t (around {a = u₁} {b = v₁} i j) (around {a = u₂} {b = v₂} k l) v f =
      let t₂ = right_brace ∷ v₂ ++ (w ++ rest) in
      let t₁ = left_brace ∷ v₁ ++ (u₂ ++ t₂) in
      record {
        white = u₁;
        body = t₁;
        is_white = i;
        sign = record { first = refl };
        split = simp append_assoc;
        reads = λ at h. rw (is_at_head s t₁ at left_brace h) (
            gets_skip s (sign_at left_brace s at) _ (sign_complete s at left_brace t₂ (white_append j k) refl
            (h ∙ ap (λ z. left_brace ∷ z) (sym (append_assoc v₁ u₂ t₂)))) (λ p m.
            gets_bind s [] _ _ (rw (t, is_at_head s t₂ p right_brace m) (gets_here s [] p t₂ m)) (λ q n.
            gets_skip s (sign_at right_brace s q) _ (sign_complete s q right_brace rest (white_append l v) (signs_solid (closing_signs f))
            (n ∙ sym (append_assoc (right_brace ∷ v₂) w rest))) (λ e o.
            gets_here s (some []) e rest o))));
      }

  -- what follows a part that a sign, perhaps behind white space, ends
  pub led_ends : {B : Type 0} {by t rest : List ℕ} {r : ℕ → Read B} {x : B} → every (λ b. has b ends) by ≡ true → Led s t by r x rest → Follow ends t
  led_ends e l = rw l.split (white_ends l.is_white (follow_in ends e l.sign))

  gets_value : {b : List ℕ} {v : Value} (t : List ℕ) (at : ℕ) → VALUE b v → Stops (in_class SafeByte) t → drop at s ≡ b ++ t
      → Gets s (reading (value_at s at) (λ e. some (value_of s at e))) (some v) t
  unfolding reading
  gets_value {b} {v} t at y k h = let p = value_exact s t at y k h in record { end = at + length b; is = rw (p.0, p.1); leaves = behind s b t at h }

  -- "optional `=` value", before what a reader goes on from
  value_led : {B : Type 0} {b t rest : List ℕ} {v : Option Value} {r : ℕ → Read B} {x : B} → parm_value b v → (l : Led s t (text "{,}") r x rest)
      → Led s (b ++ t) signs (value_r s) v l.body
  unfolding value_r every has pick
  value_led no_value l = record {
    white = l.white;
    body = l.body;
    split = l.split;
    is_white = l.is_white;
    sign = follow_in signs refl l.sign;
    reads = λ at h. rw (is_at_head s l.body at equal h, follow_not (λ b. eqb b equal) refl l.sign) (gets_here s none at l.body h);
  }
  value_led {t} (with_value {b} {v} (around {a = u} {b = o} i j) y) l = record {
    white = u;
    body = equal ∷ o ++ (b ++ t);
    is_white = i;
    sign = record { first = refl };
    split = regroup3 u (equal ∷ o) b t;
    reads = λ at h. rw (is_at_head s (equal ∷ o ++ (b ++ t)) at equal h) (
        gets_skip s (sign_at equal s at) _ (sign_complete s at equal (b ++ t) j (value_solid t y) h) (λ p m.
        gets_spaced s _ (rw (← l.split) (gets_value t p y (ends_safe (led_ends refl l)) m)) l.is_white
        (signs_solid (follow_in signs refl l.sign))));
  }

  -- "word, optional `/` word", before what a reader goes on from
  second_gets : {B : Type 0} {b t rest : List ℕ} {x : Option (List ℕ)} {r : ℕ → Read B} {y : B} (at : ℕ) → ItemID b x → (l : Led s t signs r y rest)
      → drop at s ≡ b ++ t
      → Gets s (spaced s (second_r s at)) x l.body
  unfolding second_r every has pick
  second_gets {t} at no_item_id l h =
      gets_spaced s {w = l.white} _ (rw (is_at_head s t at slash h, follow_not (λ b. eqb b slash) refl (led_ends refl l), ← l.split)
      (gets_here s none at t h)) l.is_white (signs_solid l.sign)
  second_gets {t} at (item_id {a} n) l h =
      gets_spaced s {w = l.white} _ (rw (is_at_head s (slash ∷ a ++ t) at slash h, ← l.split) (
      gets_bind s a (word_r s (at + 1)) _ (gets_word s t (at + 1) n (ends_word (led_ends refl l)) (behind s (slash ∷ []) (a ++ t) at h))
      (λ p m. gets_here s (some a) p t m)))
      l.is_white (signs_solid l.sign)

  second_stops : {B : Type 0} {b t rest : List ℕ} {x : Option (List ℕ)} {r : ℕ → Read B} {y : B} → ItemID b x → Led s t signs r y rest
      → Stops (in_class WordByte) (b ++ t)
  unfolding every has pick in_class is_word is_letter is_digit
  second_stops no_item_id l = ends_word (led_ends refl l)
  second_stops (item_id n) l = refl

  -- an item begins with a word
  pub item_first : {A : Type 0} {left : ℕ} {X : List ℕ → List A → Type 0} {a : List ℕ} {x : ItemOf A} (t : List ℕ) → amm_parameter left X a x
      → is_letter (head (a ++ t)) ≡ true
  item_first t (parameter {a} {b} {c} {d} n i p z) = rw (regroup4 a b c d t) (name_letter (b ++ (c ++ (d ++ t))) n)
  item_first t (audit l (empty_audit {a} {b} {c} {d} k v o p)) = rw (regroup4 a b c d t) (name_letter (b ++ (c ++ (d ++ t))) (audit_name k))

  pub items_filled : (k : ℕ) → Filled (amm_parameters (suc k))
  unfolding is_letter
  items_filled k = record { first = λ a t xs y. test_not is_letter (head (a ++ t)) right_brace refl (go t y) }
    where
      go : {a : List ℕ} {xs : List (Item (suc k))} (t : List ℕ) → Commas (amm_parameter k (amm_parameters k)) a xs → is_letter (head (a ++ t)) ≡ true
      go t (single y) = item_first t y
      go t (joined {a} {b} {c} y m ys) = rw (regroup3 a b c t) (item_first (b ++ (c ++ t)) y)

  -- an item whose parts are led on from one another
  item_gets : {A : Type 0} (left : ℕ) (inner : ℕ → Read (List A)) {a b c t rest : List ℕ} {x : Option (List ℕ)} {v : Option Value}
      {is : Option (List A)} (at : ℕ)
      → NAME a → ItemID b x → parm_value c v → Led s t (text "{,}") (braces_r (or_none_r (may_be_empty left a x) inner s) s) is rest
      → drop at s ≡ a ++ (b ++ (c ++ t)) → Gets s (item_r left inner s at) (item a x v is) rest
  unfolding item_r
  item_gets left inner {a} {b} {c = p} {t} {rest} {x} {v} {is} at n i y l h =
      given (value_led y l) (λ k.
      gets_bind s a (word_r s at) _ (gets_word s (b ++ (p ++ t)) at n (second_stops i k) h)
      (λ q m.
      gets_bind s x (spaced s (second_r s q)) _ (second_gets q i k m) (λ q m.
      gets_bind s v (value_r s q) _ (k.reads q m) (λ q m.
      gets_bind s is _ _ (l.reads q m) (λ q m. gets_here s (item a x v is) q rest m)))))

  may : (left : ℕ) (a : List ℕ) → left ≡ 7 → Keyword AuditToken a → may_be_empty left a none ≡ true
  unfolding may_be_empty called
  may left a e k = rw (e, keyword_spells AuditToken a k)

  pub item_complete : {A : Type 0} (left : ℕ) (X : List ℕ → List A → Type 0) (inner : ℕ → Read (List A)) → Complete X (text "}") s inner → Filled X
      → Complete (amm_parameter left X) closing s (item_r left inner s)
  item_complete {A} left X inner c o = record { solid = λ a t x y. letter_solid _ (item_first t y); reads = all }
    where
      all : (a w rest : List ℕ) (x : ItemOf A) (at : ℕ) → amm_parameter left X a x → LWSP w → Follow closing rest → drop at s ≡ a ++ (w ++ rest)
          → Gets s (item_r left inner s at) x rest
      all a' w rest x' at (parameter {a} {b} {c = p} {d} {x} n i y z) g f h =
          item_gets left inner at n i y (braces_led (or_none_complete (may_be_empty left a x) c o) z g f) (h ∙ regroup4 a b p d (w ++ rest))
      all a' w rest x' at (audit e (empty_audit {a} {b} {c = p} {d} k y i j)) g f h =
          item_gets left inner at (audit_name k) no_item_id y (empty_led inner (may left a e k) i j g f) (h ∙ simp append_assoc)

  -- items of k levels
  items_both : (k : ℕ) → Complete (amm_parameters k) (text "}") s (items_r k s) × Filled (amm_parameters k)
  unfolding items_r
  items_both zero = (record { solid = λ a t x y. absurd y; reads = λ a w rest x at y. absurd y }, record { first = λ a t x y. absurd y })
  items_both (suc k) = (list_complete_all _ s _ (item_complete k (amm_parameters k) (items_r k s) (items_both k).0 (items_both k).1), items_filled k)

  pub items_complete : (k : ℕ) → Complete (amm_parameters k) (text "}") s (items_r k s)
  items_complete k = (items_both k).0

-- ---- sound

-- what stands in braces that may be empty
data OrNone {A : Type 0} (empty : Bool) (X : List ℕ → List A → Type 0) : List ℕ → List A → Type 0 where
  filled : {a : List ℕ} {xs : List A} → X a xs → OrNone empty X a xs
  nothing : empty ≡ true → OrNone empty X [] []

module _ (s : List ℕ) where
  braces_of : {A : Type 0} (X : List ℕ → List A → Type 0) {u a b w c : List ℕ} {xs : List A} {is : Option (List A)}
      → LWSP u → After left_brace a → X b xs → LWSP w → After right_brace c → some xs ≡ is → Braces X ((u ++ a) ++ b ++ (w ++ c)) is
  braces_of X i (after_sign j) y k (after_sign l) z = rw (← z) (with_braces (around i j) y (around k l))

  -- from behind white space
  pub braces_sound : {A : Type 0} (X : List ℕ → List A → Type 0) (inner : ℕ → Read (List A)) → Sound X s inner
      → {u : List ℕ} (is : Option (List A)) (at e : ℕ) → LWSP u
      → braces_r inner s at ≡ got is e → Spaced (λ c. Braces X c is) (u ++ drop at s) (drop e s)
  unfolding braces_r pick
  braces_sound X inner c {u} is at e i h = whether (is_at s at left_brace)
      (λ t. skip_got is e (sign_at left_brace s at) _ (rw t at h)
      (λ p m l. bind_got is e (inner p) _ l (λ xs q n l. skip_got is e (sign_at right_brace s q) _ l (λ r o l. given (got_same is e l) (λ z.
      given (sign_sound s at left_brace p (omega arith) m)
      (λ f. given (c.finds xs p q n) (λ y. given (sign_sound s q right_brace e (omega arith) (o ∙ ap Some z.1)) (λ g. record {
        bytes = (u ++ f.bytes) ++ y.bytes ++ (y.white ++ g.bytes);
        white = [];
        derives = braces_of X i f.derives y.derives y.is_white g.derives z.0;
        is_white = no_lwsp;
        split = rw (f.split, y.split, g.split) (simp append_assoc);
      }))))))))
      (λ t. given (got_same is e (rw t at h)) (λ z. record {
        bytes = [];
        white = u;
        derives = rw (← z.0) no_braces;
        is_white = i;
        split = rw z.1;
      }))

  value_of_lem : {u a b : List ℕ} {v : Value} {x : Option Value} → LWSP u → After equal a → VALUE b v → some v ≡ x → parm_value ((u ++ a) ++ b) x
  value_of_lem i (after_sign j) y z = rw (← z) (with_value (around i j) y)

  value_behind : {u : List ℕ} (v : Option Value) (at e : ℕ) → LWSP u → value_r s at ≡ got v e → Spaced (λ c. parm_value c v) (u ++ drop at s) (drop e s)
  unfolding value_r pick
  value_behind {u} v at e i h = whether (is_at s at equal)
      (λ t. skip_got v e (sign_at equal s at) _ (rw t at h) (λ p m l. spaced_got s v e _ l (λ q n o. given (reading_got v q (value_at s p) _ n) (λ z.
      given (sign_sound s at equal p (omega arith) m) (λ f. given (value_sound s p q z.0) (λ y. given (white_sound s q e o) (λ w. record {
        bytes = (u ++ f.bytes) ++ y.bytes;
        white = w.bytes;
        derives = value_of_lem i f.derives y.derives z.1;
        is_white = w.derives;
        split = rw (f.split, y.split, w.split) (simp append_assoc);
      })))))))
      (λ t. given (got_same v e (rw t at h)) (λ z. record {
        bytes = [];
        white = u;
        derives = rw (← z.0) no_value;
        is_white = i;
        split = rw z.1;
      }))

  second_sound : (x : Option (List ℕ)) (at e : ℕ) → spaced s (second_r s at) ≡ got x e → Spaced (λ b. ItemID b x) (drop at s) (drop e s)
  unfolding second_r pick
  second_sound x at e h = spaced_got s x e _ h (λ p m o. given (white_sound s p e o) (λ w. whether (is_at s at slash)
      (λ t. bind_got x p (word_r s (at + 1)) _ (rw t at m) (λ a q n l. given (got_same x p l) (λ z. given (word_got s a (at + 1) q n) (λ y. record {
        bytes = slash ∷ a;
        white = w.bytes;
        derives = rw (← z.0) (item_id y.0);
        is_white = w.derives;
        split = is_at_cons s at slash (omega arith) t ∙ rw (y.1, z.1, w.split);
      }))))
      (λ t. given (got_same x p (rw t at m)) (λ z. record {
        bytes = [];
        white = w.bytes;
        derives = rw (← z.0) no_item_id;
        is_white = w.derives;
        split = rw z.1 w.split;
      }))))

  or_none_sound : {A : Type 0} (empty : Bool) (X : List ℕ → List A → Type 0) (inner : ℕ → Read (List A)) → Sound X s inner
      → Sound (OrNone empty X) s (or_none_r empty inner s)
  unfolding or_none_r pick
  or_none_sound empty X inner c = record {
    finds = λ xs at e h. whether (empty && is_at s at right_brace)
        (λ t. given (got_same xs e (rw t at h)) (λ z. record {
          bytes = [];
          white = [];
          derives = rw (← z.0) (nothing (and_parts empty _ t).0);
          is_white = no_lwsp;
          split = rw z.1;
        }))
        (λ t. given (c.finds xs at e (rw t at h)) (λ y. record {
          bytes = y.bytes;
          white = y.white;
          derives = filled y.derives;
          is_white = y.is_white;
          split = y.split;
        }));
  }

  -- with nothing in its braces it is auditDescriptor
  item_of : {A : Type 0} {left : ℕ} {X : List ℕ → List A → Type 0} {a b c d : List ℕ} {x : Option (List ℕ)} {v : Option Value} {is : Option (List A)}
      → NAME a → ItemID b x → parm_value c v → Braces (OrNone (may_be_empty left a x) X) d is → amm_parameter left X (a ++ b ++ c ++ d) (item a x v is)
  unfolding may_be_empty called
  item_of n i y no_braces = parameter n i y no_braces
  item_of n i y (with_braces l (filled z) r) = parameter n i y (with_braces l z r)
  item_of {left} {a} {c} n no_item_id y (with_braces {a = b} {c = d} l (nothing t) r) =
      given (and_parts (eqb left 7) _ t) (λ p. rw (append-nil a, append-nil b, ← append_assoc (a ++ c) b d)
      (audit (eqb-true left 7 p.0) (empty_audit (spells_keyword AuditToken a p.1) y l r)))
  item_of {left} n (item_id m) y (with_braces l (nothing t) r) = absurd (false≢true (and_parts (eqb left 7) false t).1)

  pub item_sound : {A : Type 0} (left : ℕ) (X : List ℕ → List A → Type 0) (inner : ℕ → Read (List A)) → Sound X s inner
      → Sound (amm_parameter left X) s (item_r left inner s)
  unfolding item_r
  item_sound left X inner c = record {
    finds = λ y at e h.
        bind_got y e (word_r s at) _ h (λ a p m l. bind_got y e (spaced s (second_r s p)) _ l
        (λ x q n l. bind_got y e (value_r s q) _ l (λ v r o l. bind_got y e (braces_r (or_none_r (may_be_empty left a x) inner s) s r) _ l (λ is f g l.
        given (got_same y e l) (λ z.
        given (word_got s a at p m) (λ t₁.
        given (second_sound x p q n) (λ t₂.
        given (value_behind v q r t₂.is_white o) (λ t₃.
        given (braces_sound _ _ (or_none_sound (may_be_empty left a x) X inner c) is r e t₃.is_white (g ∙ ap (got is) z.1)) (λ t₄. record {
          bytes = a ++ t₂.bytes ++ t₃.bytes ++ t₄.bytes;
          white = t₄.white;
          derives = rw (← z.0) (item_of t₁.0 t₂.derives t₃.derives t₄.derives);
          is_white = t₄.is_white;
          split = t₁.1 ∙ rw (t₂.split, t₃.split, t₄.split) (simp append_assoc);
        })))))))));
  }

  pub items_sound : (k : ℕ) → Sound (amm_parameters k) s (items_r k s)
  unfolding items_r
  items_sound zero = record { finds = λ x at e h. absurd (fault_got x e h) }
  items_sound (suc k) = list_sound_all _ s _ (item_sound k (amm_parameters k) (items_r k s) (items_sound k))

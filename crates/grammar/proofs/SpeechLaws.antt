-- Local and Remote in a Media of level 1, and the items of level 1, are read exactly as the grammar derives them.
use Rattle.std.specs.Prelude.{Some, None}
use Prim.Native.Nat.{ℕ, zero, suc, ◌+◌, ◌<◌}
use mathlib.Core.Path.{◌≡◌, refl, sym, ap, ◌∙◌}
use mathlib.Core.Bool.{Bool, true, false, not, ◌&&◌, ◌||◌, and-false, or-true}
use mathlib.Core.List.{List, [], ◌∷◌, ◌++◌, append_assoc}
use mathlib.Core.Option.{Option, none, some}
use lib.ListN.{length, drop}
use lib.Dec.{eqb}
use borrow.Author.Tests.{eqb-true, eqb-false, ne_eqb}
use native.Mathlib.Omega.{arith}
use native.Mathlib.Nat.{add-zero}
use Rattle.base.specs.Pick.{pick}
use Rattle.base.specs.Lists.{is_at, part, every, has}
use Rattle.base.specs.Bytes.{text}
use Rattle.base.proofs.TestLaws.{clash}
use Rattle.megaco.specs.Bytes.{equal, left_brace, right_brace, slash, is_letter, is_digit, is_word, is_white, in_class}
use Rattle.megaco.specs.White.{goes_on, white_at}
use Rattle.megaco.specs.Keywords.{spells}
use Rattle.megaco.specs.Items.{given?}
use Rattle.megaco.specs.Tokens.{sign_at, row_at, word_at, octets_from, octets_at, letter_at}
use Rattle.megaco.specs.Tree.{Value, octets, ItemOf, item, Item}
use Rattle.megaco.specs.Reading.{Read, got, reading, spaced, list_r, unlimited, word_r, second_r, value_r, braces_r, may_be_empty, or_none_r, item_r, items_r, word_here, media_here, brace_from, speech_here, speech_r, media_item_r, media_r, top_item_r, top_r}
use Rattle.protocol.specs.Types.{Token, MediaToken, LocalToken, RemoteToken, WordByte, Parsed}
use Rattle.grammar.specs.Characters.{Keyword, Without, ended, begun}
use Rattle.grammar.specs.Grammar.{LWSP, no_lwsp, Around, around, Commas, single, joined, NAME, ItemID, no_item_id, item_id, parm_value, no_value, with_value, Braces, no_braces, with_braces, amm_parameter, parameter, audit, amm_parameters, octet_string, no_octet, octet, text_descriptor, with_text, HoldsText, as_local, as_remote, media_parm, local_descriptor, remote_descriptor, other_parm, CalledMedia, as_media, top_parameter, media_descriptor, other_parameter}
use Rattle.grammar.proofs.Classes.{and_parts, test_not, word_tests, white_has}
use Rattle.grammar.proofs.Places.{regroup3, regroup4, head, Gets, Finds, gets_here, gets_skip, gets_bind, gets_part, finds, behind, behind_at, part_is, part_to, is_at_head, is_at_cons, whether, given, fault_next, next_same, got_same, skip_got, bind_got, reading_got, pick_next}
use Rattle.grammar.proofs.WhiteLaws.{Solid, white_append, white_complete, white_sound}
use Rattle.grammar.proofs.RowLaws.{Stops, After, after_sign, sign_complete, sign_sound, row_is, up_to_64}
use Rattle.grammar.proofs.FollowLaws.{Follow, ends, signs, closing, follow_not, follow_in, signs_solid, signs_ends, closing_signs, white_ends, around_ends, ends_word}
use Rattle.grammar.proofs.WordLaws.{name_letter, name_many, keyword_spells, spells_keyword, local_name, remote_name}
use Rattle.grammar.proofs.ListLaws.{Spaced, gets_spaced, spaced_got, gets_word, word_got, Complete, Sound, list_complete_all, list_sound_all}
use Rattle.grammar.proofs.ItemLaws.{name_solid, Filled, item_first, items_filled, item_complete, items_complete, item_sound, items_sound}

-- ---- the text

octets_run : {escaped : Bool} {c : List ℕ} (rest : List ℕ) (n : ℕ) → octet_string escaped c → octets_from (c ++ right_brace ∷ rest) n escaped ≡ Some (n + length c)
unfolding octets_from pick
octets_run rest n no_octet = rw (add-zero n)
octets_run rest n (octet {escaped} {b} {bs} z e o) =
    let l : n + 1 + length bs ≡ n + suc (length bs) = omega arith in
    let k : eqb b 0 ≡ false = ne_eqb b 0 (λ h. omega arith) in
    rw (k, goes (eqb b right_brace) refl, ← l) (octets_run rest (n + 1) o)
  where
    goes : (t : Bool) → eqb b right_brace ≡ t → (eqb b right_brace && not escaped) ≡ false
    goes true h = rw (h, e (eqb-true b right_brace h))
    goes false h = rw h

record Text (escaped : Bool) (t : List ℕ) (n e : ℕ) : Type 0 where
  bytes : List ℕ
  rest : List ℕ
  is : octet_string escaped bytes
  split : t ≡ bytes ++ right_brace ∷ rest
  end : e ≡ n + length bytes

positive : (b : ℕ) → (b ≡ 0 → ⊥) → 0 < b
positive b h = omega arith

octets_back : (t : List ℕ) (n e : ℕ) (escaped : Bool) → octets_from t n escaped ≡ Some e → Text escaped t n e
unfolding octets_from pick
octets_back [] n e escaped h = absurd (fault_next h)
octets_back (b ∷ t) n e escaped h = zero_or (octets_back t (n + 1) e (eqb b 0x5c)) (eqb b 0) refl h
  where
    more : eqb b 0 ≡ false → (b ≡ right_brace → escaped ≡ true) → Text (eqb b 0x5c) t (n + 1) e → Text escaped (b ∷ t) n e
    more z k r =
        record { bytes = b ∷ r.bytes; rest = r.rest; is = octet (positive b (eqb-false b 0 z)) k r.is; split = ap (λ l. b ∷ l) r.split; end = omega (arith, r.end) }

    brace_or : (octets_from t (n + 1) (eqb b 0x5c) ≡ Some e → Text (eqb b 0x5c) t (n + 1) e) → eqb b 0 ≡ false → (x y : Bool) → eqb b right_brace ≡ x → escaped ≡ y
        → pick (x && not y) (Some n) (octets_from t (n + 1) (eqb b 0x5c)) ≡ Some e → Text escaped (b ∷ t) n e
    brace_or back z true false k l g =
        let q : b ≡ right_brace = eqb-true b right_brace k in
        rw l (record { bytes = []; rest = t; is = no_octet; split = ap (λ x. x ∷ t) q; end = omega (arith, next_same g) })
    brace_or back z true true k l g = more z (λ i. l) (back g)
    brace_or back z false y k l g = more z (λ i. absurd (eqb-false b right_brace k i)) (back g)

    zero_or : (octets_from t (n + 1) (eqb b 0x5c) ≡ Some e → Text (eqb b 0x5c) t (n + 1) e) → (x : Bool) → eqb b 0 ≡ x
        → pick x None (pick (eqb b right_brace && not escaped) (Some n) (octets_from t (n + 1) (eqb b 0x5c))) ≡ Some e → Text escaped (b ∷ t) n e
    zero_or back true k g = absurd (fault_next g)
    zero_or back false k g = brace_or back k (eqb b right_brace) escaped refl refl g

-- what a text begins with is no white space
text_solid : {c : List ℕ} (t : List ℕ) → Without (text " \t\r\n;") c → Solid (c ++ right_brace ∷ t)
unfolding goes_on is_white
text_solid t ended = refl
text_solid t (begun {b} h) = white_has b ∙ h

solid_text : (c t : List ℕ) → Solid (c ++ right_brace ∷ t) → Without (text " \t\r\n;") c
solid_text [] t k = ended
solid_text (b ∷ c) t k = begun (sym (white_has b) ∙ k)

-- ---- what an item that was read tells of its place

none_some : {A : Type 0} {a : A} → none ≡ some a → ⊥
none_some h = let z : ◌≡◌ {A = ℕ} 0 1 = cc in omega arith

called_media : {A : Type 0} {w : List ℕ} {x : Option (List ℕ)} {v : Option Value} {is : Option (List A)} → CalledMedia (item w x v is) → Keyword MediaToken w × (x ≡ none)
called_media (as_media k) = (k, refl)

-- what an item that was read is, and what stood behind its word
record ItemRead {A : Type 0} (s : List ℕ) (at : ℕ) (x : ItemOf A) : Type 0 where
  word : List ℕ
  second : Option (List ℕ)
  value : Option Value
  inside : Option (List A)
  is : x ≡ item word second value inside
  here : word_here s at ≡ word
  slashed : is_at s (row_at WordByte s at) slash ≡ given? second
  braced : second ≡ none → value ≡ none → (xs : List A) → inside ≡ some xs → brace_from s (white_at s (row_at WordByte s at)) ≡ true

module _ (s : List ℕ) where
  row_got : (w : List ℕ) (at p : ℕ) → word_r s at ≡ got w p → (row_at WordByte s at ≡ p) × (word_here s at ≡ w)
  unfolding word_r word_at word_here
  row_got w at p h =
      given (reading_got w p _ (part s at) h) (λ z. given (up_to_64 at (row_at WordByte s at) p (pick_next (letter_at s at) _ p z.0).1).0 (λ r.
      (r, rw r z.1)))

  second_slash : (x : Option (List ℕ)) (p q : ℕ) → second_r s p ≡ got x q → is_at s p slash ≡ given? x
  unfolding second_r pick given?
  second_slash x p q h = whether (is_at s p slash)
      (λ t. bind_got x q (word_r s (p + 1)) _ (rw t at h) (λ a r n l. given (got_same x q l) (λ z. rw (t, ← z.0))))
      (λ t. given (got_same x q (rw t at h)) (λ z. rw (t, ← z.0)))

  second_none : (x : Option (List ℕ)) (p q : ℕ) → second_r s p ≡ got x q → x ≡ none → q ≡ p
  unfolding second_r pick
  second_none x p q h k = whether (is_at s p slash)
      (λ t. bind_got x q (word_r s (p + 1)) _ (rw t at h) (λ a r n l. given (got_same x q l) (λ z. absurd (none_some (sym k ∙ sym z.0)))))
      (λ t. given (got_same x q (rw t at h)) (λ z. sym z.1))

  value_none : (x : Option Value) (p q : ℕ) → value_r s p ≡ got x q → x ≡ none → q ≡ p
  unfolding value_r pick
  value_none x p q h k = whether (is_at s p equal)
      (λ t. skip_got x q (sign_at equal s p) _ (rw t at h) (λ r m l. spaced_got s x q _ l (λ u n o. given (reading_got x u _ _ n) (λ z. absurd (none_some (sym k ∙ sym z.1))))))
      (λ t. given (got_same x q (rw t at h)) (λ z. sym z.1))

  braces_some : {A : Type 0} (inner : ℕ → Read (List A)) (x : Option (List A)) (p q : ℕ) → braces_r inner s p ≡ got x q → (xs : List A) → x ≡ some xs → is_at s p left_brace ≡ true
  unfolding braces_r pick
  braces_some inner x p q h xs k = whether (is_at s p left_brace) (λ t. t) (λ t. given (got_same x q (rw t at h)) (λ z. absurd (none_some (z.0 ∙ k))))

  brace_of : (p q r : ℕ) (w : Parsed) → w ≡ Some q → r ≡ q → is_at s r left_brace ≡ true → brace_from s w ≡ true
  unfolding brace_from
  brace_of p q r w e k b = rw (e, ← k) b

  item_read : {A : Type 0} (left : ℕ) (inner : ℕ → Read (List A)) (x : ItemOf A) (at e : ℕ) → item_r left inner s at ≡ got x e → ItemRead s at x
  unfolding item_r
  item_read left inner x at e h =
      bind_got x e (word_r s at) _ h (λ a p m l. bind_got x e (spaced s (second_r s p)) _ l
      (λ y q n l. bind_got x e (value_r s q) _ l (λ v r o l. bind_got x e (braces_r (or_none_r (may_be_empty left a y) inner s) s r) _ l (λ is f g l.
      given (got_same x e l) (λ z. given (row_got a at p m) (λ t. spaced_got s y q _ n (λ u i j. record {
        word = a;
        second = y;
        value = v;
        inside = is;
        is = sym z.0;
        here = t.1;
        slashed = rw t.0 (second_slash y p u i);
        braced = λ k₁ k₂ xs k₃. rw t.0 (brace_of p q r (white_at s p) (rw (second_none y p u i k₁) at j) (value_none v q r o k₂) (braces_some (or_none_r (may_be_empty left a y) inner s) is r f g xs k₃));
      })))))))

  media_is : {A : Type 0} (x : ItemOf A) (at : ℕ) → ItemRead s at x → media_here s at ≡ true → CalledMedia x
  unfolding media_here given?
  media_is x at y h =
      given (and_parts (not (is_at s (row_at WordByte s at) slash)) _ h) (λ p. rw y.is (by y.second y.slashed (spells_keyword MediaToken y.word (rw (← y.here) p.1)) p.0))
    where
      by : (u : Option (List ℕ)) → is_at s (row_at WordByte s at) slash ≡ given? u → Keyword MediaToken y.word → not (is_at s (row_at WordByte s at) slash) ≡ true → CalledMedia (item y.word u y.value y.inside)
      by none e k n = as_media k
      by (some a) e k n = absurd (clash (sym (rw e at n)))

  media_isnt : {A : Type 0} (x : ItemOf A) (at : ℕ) → ItemRead s at x → media_here s at ≡ false → CalledMedia x → ⊥
  unfolding media_here given?
  media_isnt x at y h m = by (rw y.is at m) y.slashed
    where
      holds : spells MediaToken (word_here s at) ≡ true → is_at s (row_at WordByte s at) slash ≡ false → media_here s at ≡ true
      holds a b = rw (a, b)

      by : CalledMedia (item y.word y.second y.value y.inside) → is_at s (row_at WordByte s at) slash ≡ given? y.second → ⊥
      by c e = given (called_media c) (λ k. clash (sym (holds (rw y.here (keyword_spells MediaToken y.word k.0)) (e ∙ rw k.1)) ∙ h))

  media_yes : {A : Type 0} (x : ItemOf A) (at : ℕ) → ItemRead s at x → CalledMedia x → media_here s at ≡ true
  media_yes x at y m = whether (media_here s at) (λ h. h) (λ h. absurd (media_isnt x at y h m))

  media_no : {A : Type 0} (x : ItemOf A) (at : ℕ) → ItemRead s at x → (CalledMedia x → ⊥) → media_here s at ≡ false
  media_no x at y m = whether (media_here s at) (λ h. absurd (m (media_is x at y h))) (λ h. h)

-- ---- complete

-- what stands behind an item's words
tail_ends : {A : Type 0} {X : List ℕ → List A → Type 0} {c d w rest : List ℕ} {v : Option Value} {is : Option (List A)} → parm_value c v → Braces X d is → LWSP w
    → Follow closing rest → Follow ends (c ++ (d ++ (w ++ rest)))
unfolding has pick
tail_ends {d} {w} {rest} (with_value {a} {b} i y) z g f = rw (append_assoc a b (d ++ (w ++ rest))) (around_ends (b ++ (d ++ (w ++ rest))) refl i)
tail_ends {w} {rest} no_value (with_braces {a} {b} {c} i y j) g f = rw (regroup3 a b c (w ++ rest)) (around_ends (b ++ (c ++ (w ++ rest))) refl i)
tail_ends no_value no_braces g f = white_ends g (signs_ends (closing_signs f))

module _ (s : List ℕ) where
  brace_from_lem : (u t : List ℕ) (p : ℕ) → LWSP u → Solid t → drop p s ≡ u ++ t → brace_from s (white_at s p) ≡ eqb (head t) left_brace
  unfolding brace_from
  brace_from_lem u t p g k h = given (white_complete s t p g k h) (λ y. rw y.is (is_at_head s t y.end left_brace y.leaves))

  module _ (t : List ℕ) {a : List ℕ} (at : ℕ) (n : NAME a) (k : Stops (in_class WordByte) t) (h : drop at s ≡ a ++ t) where
    word_is : word_here s at ≡ a
    unfolding word_here
    word_is = rw (row_is WordByte word_tests s t at (name_many n) k h) (part_is s a t at h)

    row_leaves : drop (row_at WordByte s at) s ≡ t
    row_leaves = rw (row_is WordByte word_tests s t at (name_many n) k h) (behind s a t at h)

  second_stops : {b : List ℕ} {x : Option (List ℕ)} (t : List ℕ) → ItemID b x → Follow ends t → Stops (in_class WordByte) (b ++ t)
  unfolding in_class is_word is_letter is_digit
  second_stops t no_item_id f = ends_word f
  second_stops t (item_id n) f = refl

  slash_at : {b : List ℕ} {x : Option (List ℕ)} (t : List ℕ) (p : ℕ) → ItemID b x → Follow ends t → drop p s ≡ b ++ t → is_at s p slash ≡ given? x
  unfolding given? every has pick
  slash_at t p no_item_id f h = is_at_head s t p slash h ∙ follow_not (λ b. eqb b slash) refl f
  slash_at t p (item_id {a} n) f h = is_at_head s (slash ∷ a ++ t) p slash h

  module _ {A : Type 0} {X : List ℕ → List A → Type 0} {w rest : List ℕ} (at : ℕ) (g : LWSP w) (f : Follow closing rest) where
    -- below level 1 there is no empty Audit
    speech_no : {a : List ℕ} {x : ItemOf A} → amm_parameter 6 X a x → (HoldsText x → ⊥) → drop at s ≡ a ++ (w ++ rest) → speech_here s at ≡ false
    unfolding speech_here goes_on is_white every has pick
    speech_no (audit l y) m h = absurd (let z : ◌≡◌ {A = ℕ} 6 7 = l in omega arith)
    speech_no (parameter {a} {b} {c} {d} n (item_id {a = u} i) p z) m h =
        let t = c ++ (d ++ (w ++ rest)) in
        let e : Follow ends t = tail_ends p z g f in
        let o : drop at s ≡ a ++ (slash ∷ u ++ t) = h ∙ regroup4 a (slash ∷ u) c d (w ++ rest) in
        rw (brace_from_lem [] (slash ∷ u ++ t) _ no_lwsp refl (row_leaves (slash ∷ u ++ t) at n (second_stops t (item_id i) e) o)) (and-false (spells LocalToken (word_here s at) || spells RemoteToken (word_here s at)))
    speech_no (parameter {a} {d} n no_item_id (with_value {b = y} (around {a = u} {b = v} i j) q) z) m h =
        let t = equal ∷ v ++ (y ++ (d ++ (w ++ rest))) in
        let o : drop at s ≡ a ++ (u ++ t) = h ∙ simp append_assoc in
        rw (brace_from_lem u t _ i refl (row_leaves (u ++ t) at n (ends_word (white_ends i (record { first = refl }))) o)) (and-false (spells LocalToken (word_here s at) || spells RemoteToken (word_here s at)))
    speech_no (parameter {a} n no_item_id no_value no_braces) m h =
        let o : drop at s ≡ a ++ (w ++ rest) = h ∙ simp append_assoc in
        rw (
          brace_from_lem w rest _ g (signs_solid (closing_signs f)) (row_leaves (w ++ rest) at n (ends_word (white_ends g (signs_ends (closing_signs f)))) o),
          follow_not (λ b. eqb b left_brace) refl f,
        ) (and-false (spells LocalToken (word_here s at) || spells RemoteToken (word_here s at)))
    speech_no (parameter {a} n no_item_id no_value (with_braces {a = b} {b = c} {c = d} i y j)) m h =
        let o : drop at s ≡ a ++ (b ++ (c ++ (d ++ (w ++ rest)))) = h ∙ simp append_assoc in
        rw (word_is _ at n (ends_word (around_ends _ refl i)) o)
        (whether (spells LocalToken a) (λ y. absurd (m (as_local (spells_keyword LocalToken a y))))
        (λ y. whether (spells RemoteToken a) (λ x. absurd (m (as_remote (spells_keyword RemoteToken a x)))) (λ x. rw (y, x))))

  -- Local or Remote with its text
  module _ (k : Token) (named : (a : List ℕ) → Keyword k a → NAME a) where
    text_begins : {a u t : List ℕ} (r : List ℕ) → text_descriptor k a u t → Solid (a ++ r)
    text_begins r (with_text {a} {b} {c} {d} x i o q l) = rw (regroup4 a b c (right_brace ∷ d) r) (name_solid _ (named a x))

    text_reads : {a u t w rest : List ℕ} (at : ℕ) → text_descriptor k a u t → LWSP w → Follow closing rest → drop at s ≡ a ++ (w ++ rest)
        → Gets s (speech_r s at) (item u none (some (octets t)) none) rest
    unfolding speech_r goes_on is_white has pick octets_at
    text_reads {w} {rest} at (with_text {a} {c} {d} x (around {a = u} {b = v} i j) o q l) g f h =
        let t₂ = right_brace ∷ d ++ (w ++ rest) in
        let t₁ = left_brace ∷ v ++ (c ++ t₂) in
        let m : drop at s ≡ a ++ (u ++ t₁) = h ∙ simp append_assoc in
        gets_bind s a (spaced s (word_r s at)) _
        (gets_spaced s {w = u} _ (gets_word s (u ++ t₁) at (named a x) (ends_word (white_ends i (record { first = refl }))) m) i refl) (λ p n.
        gets_skip s (sign_at left_brace s p) _ (sign_complete s p left_brace (c ++ t₂) j (text_solid _ q) n) (λ y n.
        gets_bind s c (reading (octets_at s y) (part s y)) _
        (gets_part s c t₂ y (octets_at s y) (λ z. z) n (rw n (octets_run (d ++ (w ++ rest)) y o))) (λ r n.
        gets_skip s (sign_at right_brace s r) _
        (sign_complete s r right_brace rest (white_append l g) (signs_solid (closing_signs f)) (n ∙ sym (append_assoc (right_brace ∷ d) w rest))) (λ e n.
        gets_here s _ e rest n))))

    text_here : {a u t : List ℕ} (r : List ℕ) (at : ℕ) → text_descriptor k a u t → drop at s ≡ a ++ r
        → (spells k (word_here s at) ≡ true) × (brace_from s (white_at s (row_at WordByte s at)) ≡ true)
    unfolding goes_on is_white has pick
    text_here r at (with_text {a} {c} {d} x (around {a = u} {b = v} i j) o q l) h =
        let t = left_brace ∷ v ++ (c ++ (right_brace ∷ d ++ r)) in
        let m : drop at s ≡ a ++ (u ++ t) = h ∙ simp append_assoc in
        let y : Stops (in_class WordByte) (u ++ t) = ends_word (white_ends i (record { first = refl })) in
        (rw (word_is (u ++ t) at (named a x) y m) (keyword_spells k a x), brace_from_lem u t _ i refl (row_leaves (u ++ t) at (named a x) y m))

  speech_local : (at : ℕ) → spells LocalToken (word_here s at) ≡ true → brace_from s (white_at s (row_at WordByte s at)) ≡ true → speech_here s at ≡ true
  unfolding speech_here
  speech_local at k b = rw (k, b)

  speech_remote : (at : ℕ) → spells RemoteToken (word_here s at) ≡ true → brace_from s (white_at s (row_at WordByte s at)) ≡ true → speech_here s at ≡ true
  unfolding speech_here
  speech_remote at k b = rw (k, b, or-true (spells LocalToken (word_here s at)))

  media_text : {rest : List ℕ} (at : ℕ) (x : Item 7) → speech_here s at ≡ true → Gets s (speech_r s at) x rest → Gets s (media_item_r s at) x rest
  unfolding media_item_r pick
  media_text at x e y = rw e y

  media_other : {rest : List ℕ} (at : ℕ) (x : Item 7) → speech_here s at ≡ false → Gets s (item_r 6 (items_r 6 s) s at) x rest → Gets s (media_item_r s at) x rest
  unfolding media_item_r pick
  media_other at x e y = rw e y

  media_complete : Complete media_parm closing s (media_item_r s)
  media_complete = record { solid = λ a t x y. solid t y; reads = λ a w rest x at y g f h. reads at y g f h }
    where
      other : Complete (amm_parameter 6 (amm_parameters 6)) closing s (item_r 6 (items_r 6 s) s)
      other = item_complete s 6 (amm_parameters 6) (items_r 6 s) (items_complete s 6) (items_filled s 5)

      solid : {a : List ℕ} {x : Item 7} (t : List ℕ) → media_parm a x → Solid (a ++ t)
      solid t (local_descriptor y) = text_begins LocalToken (λ a. local_name) t y
      solid t (remote_descriptor y) = text_begins RemoteToken (λ a. remote_name) t y
      solid t (other_parm {a} {x} y m) = other.solid a t x y

      reads : {a w rest : List ℕ} {x : Item 7} (at : ℕ) → media_parm a x → LWSP w → Follow closing rest → drop at s ≡ a ++ (w ++ rest) → Gets s (media_item_r s at) x rest
      reads at (local_descriptor y) g f h = media_text at _ (given (text_here LocalToken (λ a. local_name) _ at y h) (λ z. speech_local at z.0 z.1)) (text_reads LocalToken (λ a. local_name) at y g f h)
      reads at (remote_descriptor y) g f h = media_text at _ (given (text_here RemoteToken (λ a. remote_name) _ at y h) (λ z. speech_remote at z.0 z.1)) (text_reads RemoteToken (λ a. remote_name) at y g f h)
      reads at (other_parm {a} {x} y m) g f h = media_other at _ (speech_no at g f y m h) (other.reads a _ _ x at y g f h)

  medias_complete : Complete (Commas media_parm) (text "}") s (media_r s)
  unfolding media_r
  medias_complete = list_complete_all _ s _ media_complete

  -- what a level 1 Media holds does not begin with `}`
  parm_first : {a : List ℕ} {x : Item 7} (t : List ℕ) → media_parm a x → is_letter (head (a ++ t)) ≡ true
  parm_first t (local_descriptor (with_text {a} {b} {c} {d} x i o q l)) = rw (regroup4 a b c (right_brace ∷ d) t) (name_letter _ (local_name x))
  parm_first t (remote_descriptor (with_text {a} {b} {c} {d} x i o q l)) = rw (regroup4 a b c (right_brace ∷ d) t) (name_letter _ (remote_name x))
  parm_first t (other_parm y m) = item_first s t y

  medias_filled : Filled (Commas media_parm)
  unfolding is_letter
  medias_filled = record { first = λ a t xs y. test_not is_letter (head (a ++ t)) right_brace refl (go t y) }
    where
      go : {a : List ℕ} {xs : List (Item 7)} (t : List ℕ) → Commas media_parm a xs → is_letter (head (a ++ t)) ≡ true
      go t (single y) = parm_first t y
      go t (joined {a} {b} {c} y m ys) = rw (regroup3 a b c t) (parm_first (b ++ (c ++ t)) y)

  top_media : {rest : List ℕ} (at : ℕ) (x : Item 8) → media_here s at ≡ true → Gets s (item_r 7 (media_r s) s at) x rest → Gets s (top_item_r s at) x rest
  unfolding top_item_r pick
  top_media at x e y = rw e y

  top_other : {rest : List ℕ} (at : ℕ) (x : Item 8) → media_here s at ≡ false → Gets s (item_r 7 (items_r 7 s) s at) x rest → Gets s (top_item_r s at) x rest
  unfolding top_item_r pick
  top_other at x e y = rw e y

  pub top_complete : Complete (Commas top_parameter) (text "}") s (top_r s)
  unfolding top_r
  top_complete = list_complete_all _ s _ (record { solid = λ a t x y. solid t y; reads = λ a w rest x at y g f h. reads at y g f h })
    where
      inside : Complete (amm_parameter 7 (Commas media_parm)) closing s (item_r 7 (media_r s) s)
      inside = item_complete s 7 (Commas media_parm) (media_r s) medias_complete medias_filled

      other : Complete (amm_parameter 7 (amm_parameters 7)) closing s (item_r 7 (items_r 7 s) s)
      other = item_complete s 7 (amm_parameters 7) (items_r 7 s) (items_complete s 7) (items_filled s 6)

      solid : {a : List ℕ} {x : Item 8} (t : List ℕ) → top_parameter a x → Solid (a ++ t)
      solid t (media_descriptor {a} {x} y m) = inside.solid a t x y
      solid t (other_parameter {a} {x} y m) = other.solid a t x y

      reads : {a w rest : List ℕ} {x : Item 8} (at : ℕ) → top_parameter a x → LWSP w → Follow closing rest → drop at s ≡ a ++ (w ++ rest) → Gets s (top_item_r s at) x rest
      reads at (media_descriptor {a} {x} y m) g f h =
          given (inside.reads a _ _ x at y g f h) (λ r. top_media at x (media_yes s x at (item_read s 7 (media_r s) x at r.end r.is) m) r)
      reads at (other_parameter {a} {x} y m) g f h =
          given (other.reads a _ _ x at y g f h) (λ r. top_other at x (media_no s x at (item_read s 7 (items_r 7 s) x at r.end r.is) m) r)

-- ---- sound

module _ (s : List ℕ) where
  speech_isnt : {A : Type 0} (x : ItemOf A) (at : ℕ) → ItemRead s at x → speech_here s at ≡ false → HoldsText x → ⊥
  speech_isnt {A} x at y h m = by (rw y.is at m) y.here y.braced
    where
      by : {w : List ℕ} {u : Option (List ℕ)} {v : Option Value} {is : Option (List A)} → HoldsText (item w u v is) → word_here s at ≡ w
          → (u ≡ none → v ≡ none → (xs : List A) → is ≡ some xs → brace_from s (white_at s (row_at WordByte s at)) ≡ true) → ⊥
      by (as_local {w} {is} k) e b = clash (sym (speech_local s at (rw e (keyword_spells LocalToken w k)) (b refl refl is refl)) ∙ h)
      by (as_remote {w} {is} k) e b = clash (sym (speech_remote s at (rw e (keyword_spells RemoteToken w k)) (b refl refl is refl)) ∙ h)

  -- the text that was read
  octets_sound : (p e : ℕ) → octets_at s p ≡ Some e → Text false (drop p s) p e
  unfolding octets_at
  octets_sound p e h = octets_back (drop p s) p e false h

  word_of : (at : ℕ) (w : List ℕ) → word_here s at ≡ w → speech_here s at ≡ true → (spells LocalToken w || spells RemoteToken w) ≡ true
  unfolding speech_here
  word_of at w e h = rw e at (and_parts (spells LocalToken (word_here s at) || spells RemoteToken (word_here s at)) _ h).0

  text_of : (k : Token) {a u b c d : List ℕ} → Keyword k a → LWSP u → After left_brace b → octet_string false c → Without (text " \t\r\n;") c → After right_brace d
      → text_descriptor k (a ++ (u ++ b) ++ c ++ d) a c
  text_of k x i (after_sign j) o q (after_sign l) = with_text x (around i j) o q l

  speech_sound : (x : Item 7) (at e : ℕ) → speech_here s at ≡ true → speech_r s at ≡ got x e → Spaced (λ a. media_parm a x) (drop at s) (drop e s)
  unfolding speech_r
  speech_sound x at e here h =
      bind_got x e (spaced s (word_r s at)) _ h (λ a p m l. spaced_got s a p _ m (λ u i j.
      skip_got x e (sign_at left_brace s p) _ l (λ q n l. bind_got x e (reading (octets_at s q) (part s q)) _ l (λ t r o l.
      skip_got x e (sign_at right_brace s r) _ l (λ f y l. given (got_same x e l) (λ z.
      given (word_got s a at u i) (λ t₁. given (row_got s a at u i) (λ w.
      given (white_sound s u p j) (λ t₂. given (sign_sound s p left_brace q (omega arith) n) (λ t₃.
      given (reading_got t r _ (part s q) o) (λ v. given (octets_sound q r v.0) (λ t₄.
      given (sign_sound s r right_brace e (omega arith) (y ∙ ap Some z.1)) (λ t₅.
      given (sym (part_to s t₄.bytes _ q r t₄.end t₄.split) ∙ v.1) (λ c.
      given (behind_at s t₄.bytes _ q r t₄.end t₄.split) (λ d.
      record {
        bytes = a ++ (t₂.bytes ++ t₃.bytes) ++ t₄.bytes ++ t₅.bytes;
        white = [];
        derives = rw (← z.0, ← c) (either a (word_of at a w.1 here) (λ k x. text_of k x t₂.derives t₃.derives t₄.is
            (solid_text t₄.bytes _ (rw t₄.split at t₃.stops)) t₅.derives));
        is_white = no_lwsp;
        split = t₁.1 ∙ rw (t₂.split, t₃.split, t₄.split, ← d, t₅.split) (simp append_assoc);
      })))))))))))))))
    where
      either : {b t : List ℕ} (a : List ℕ) → (spells LocalToken a || spells RemoteToken a) ≡ true → ((k : Token) → Keyword k a → text_descriptor k b a t) → media_parm b (item a none (some (octets t)) none)
      either a h f = whether (spells LocalToken a)
          (λ k. local_descriptor (f LocalToken (spells_keyword LocalToken a k)))
          (λ k. remote_descriptor (f RemoteToken (spells_keyword RemoteToken a (rw k at h))))

  media_sound : Sound media_parm s (media_item_r s)
  unfolding media_item_r pick
  media_sound = record {
    finds = λ x at e h. whether (speech_here s at)
        (λ t. speech_sound x at e t (rw t at h))
        (λ t. given (rw t at h) (λ l. given ((item_sound s 6 (amm_parameters 6) (items_r 6 s) (items_sound s 6)).finds x at e l) (λ y.
        record { bytes = y.bytes; white = y.white; derives = other_parm y.derives (speech_isnt x at (item_read s 6 (items_r 6 s) x at e l) t); is_white = y.is_white; split = y.split })));
  }

  medias_sound : Sound (Commas media_parm) s (media_r s)
  unfolding media_r
  medias_sound = list_sound_all _ s _ media_sound

  top_item_sound : Sound top_parameter s (top_item_r s)
  unfolding top_item_r pick
  top_item_sound = record {
    finds = λ x at e h. whether (media_here s at)
        (λ t. given (rw t at h) (λ l. given ((item_sound s 7 (Commas media_parm) (media_r s) medias_sound).finds x at e l) (λ y.
        record { bytes = y.bytes; white = y.white; derives = media_descriptor y.derives (media_is s x at (item_read s 7 (media_r s) x at e l) t); is_white = y.is_white; split = y.split })))
        (λ t. given (rw t at h) (λ l. given ((item_sound s 7 (amm_parameters 7) (items_r 7 s) (items_sound s 7)).finds x at e l) (λ y.
        record { bytes = y.bytes; white = y.white; derives = other_parameter y.derives (media_isnt s x at (item_read s 7 (items_r 7 s) x at e l) t); is_white = y.is_white; split = y.split })));
  }

  pub top_sound : Sound (Commas top_parameter) s (top_r s)
  unfolding top_r
  top_sound = list_sound_all _ s _ top_item_sound

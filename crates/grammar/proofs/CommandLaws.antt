-- Commands are read exactly as the grammar derives them.
use Prim.Native.Nat.{ℕ, ◌+◌}
use mathlib.Core.Path.{◌≡◌, refl, sym, ap, ◌∙◌}
use mathlib.Core.Bool.{Bool, true, false, ◌&&◌, ◌||◌, false≢true}
use mathlib.Core.List.{List, [], ◌∷◌, ◌++◌, append_assoc}
use lib.ListN.{drop}
use lib.Seq.{drop-drop}
use lib.Dec.{eqb}
use borrow.Author.Tests.{eqb-true, eq-eqb}
use native.Mathlib.Omega.{arith}
use Rattle.base.specs.Pick.{pick}
use Rattle.base.specs.Lists.{part, every, has}
use Rattle.base.specs.Bytes.{text}
use Rattle.megaco.specs.Bytes.{equal, dash, is_letter, is_digit, is_word, is_white, in_class, capital}
use Rattle.megaco.specs.White.{goes_on}
use Rattle.megaco.specs.Keywords.{spells}
use Rattle.megaco.specs.Tokens.{sign_at, termination_at}
use Rattle.megaco.specs.Tree.{Command}
use Rattle.megaco.specs.Reading.{got, reading, spaced, word_r, braces_r, top_r, prefix_at, prefix_end, is_property, order_r, command_r}
use Rattle.protocol.specs.Types.{Token, PriorityToken, EmergencyToken, TopologyToken, WordByte}
use Rattle.base.proofs.TestLaws.{or_neither}
use Rattle.grammar.specs.Characters.{Keyword, no_more, and_then}
use Rattle.grammar.specs.Grammar.{LWSP, around, EQUAL, NAME, name, TerminationID, root, named, choose_one, all_of, Commas, top_parameter, Prefix, no_prefix, with_prefix, command_request, amm_request}
use Rattle.grammar.proofs.Classes.{and_no, and_parts, test_not, letter_passes, word_tests}
use Rattle.grammar.proofs.Places.{regroup6, head, at_head, Gets, gets_here, gets_skip, gets_bind, gets_part, behind, is_at_head, whether, given, fault_got, got_same, skip_got, bind_got, reading_got}
use Rattle.grammar.proofs.WhiteLaws.{Solid, white_sound}
use Rattle.grammar.proofs.RowLaws.{After, after_sign, sign_complete, sign_sound}
use Rattle.grammar.proofs.FollowLaws.{Follow, ends, closing, follow_not, follow_in, signs, signs_solid, white_ends, ends_word, ends_name, letter_solid, path_solid}
use Rattle.grammar.proofs.WordLaws.{capital_letter, letters_name, keyword_spells, spells_keyword}
use Rattle.grammar.proofs.NameLaws.{path_first, termination_exact, termination_sound}
use Rattle.grammar.proofs.ListLaws.{gets_spaced, spaced_got, gets_word, word_got, Complete, Sound}
use Rattle.grammar.proofs.ItemLaws.{name_solid, braces_led, led_ends, braces_sound}
use Rattle.grammar.proofs.SpeechLaws.{top_complete, top_sound}

-- ---- `O-` and `W-`

-- what stands behind the first byte
abbrev tail : List ℕ → List ℕ
tail [] = []
tail (b ∷ t) = t

drop_tail : (s t : List ℕ) (at : ℕ) → drop at s ≡ t → drop (at + 1) s ≡ tail t
drop_tail s t at h = sym (drop-drop 1 at s) ∙ rw h (go t)
  where
    go : (t : List ℕ) → drop 1 t ≡ tail t
    go [] = refl
    go (b ∷ t) = refl

prefix_at_lem : (letter : ℕ) (s t : List ℕ) (at : ℕ) → drop at s ≡ t → prefix_at letter s at ≡ eqb (capital (head t)) letter && eqb (head (tail t)) dash
unfolding prefix_at
prefix_at_lem letter s t at h = rw (at_head s at, is_at_head s (tail t) (at + 1) dash (drop_tail s t at h), h)

-- what follows is no such prefix
abbrev Bare : ℕ → List ℕ → Type 0
Bare letter t = eqb (capital (head t)) letter && eqb (head (tail t)) dash ≡ false

prefix_complete : (letter : ℕ) (s t : List ℕ) {a : List ℕ} {x : Bool} (at : ℕ) → Prefix letter a x → Bare letter t → drop at s ≡ a ++ t
    → (prefix_at letter s at ≡ x) × (drop (prefix_end letter s at) s ≡ t)
unfolding prefix_end pick
prefix_complete letter s t at no_prefix k h = let e = prefix_at_lem letter s t at h ∙ k in (e, rw e h)
prefix_complete letter s t at (with_prefix {b} c) k h =
    let e : prefix_at letter s at ≡ true = prefix_at_lem letter s _ at h ∙ rw (eq-eqb (capital b) letter c) in
    (e, rw e (behind s (b ∷ dash ∷ []) t at h))

prefix_sound : (letter : ℕ) (s : List ℕ) (at : ℕ)
    → (a : List ℕ) × Prefix letter a (prefix_at letter s at) × (drop at s ≡ a ++ drop (prefix_end letter s at) s)
unfolding prefix_end pick
prefix_sound letter s at = go (prefix_at letter s at) refl
  where
    here : (t : List ℕ) → drop at s ≡ t → prefix_at letter s at ≡ true → (a : List ℕ) × Prefix letter a true × (drop at s ≡ a ++ drop (at + 2) s)
    here [] f e = absurd (false≢true (and_parts (eqb (capital 0) letter) _ (sym (prefix_at_lem letter s [] at f) ∙ e)).1)
    here (b ∷ []) f e = absurd (false≢true (and_parts (eqb (capital b) letter) _ (sym (prefix_at_lem letter s (b ∷ []) at f) ∙ e)).1)
    here (b ∷ c ∷ u) f e =
        let p = and_parts (eqb (capital b) letter) _ (sym (prefix_at_lem letter s (b ∷ c ∷ u) at f) ∙ e) in
        let d : c ≡ dash = eqb-true c dash p.1 in
        (b ∷ dash ∷ [], with_prefix (eqb-true (capital b) letter p.0), f ∙ rw (d, behind s (b ∷ c ∷ []) u at f))

    go : (x : Bool) → prefix_at letter s at ≡ x → (a : List ℕ) × Prefix letter a x × (drop at s ≡ a ++ drop (pick x (at + 2) at) s)
    go true e = here (drop at s) refl e
    go false e = ([], no_prefix, refl)

-- ---- what no prefix begins

name_bare : (letter : ℕ) {a : List ℕ} (t : List ℕ) → NAME a → Follow ends t → Bare letter (a ++ t)
unfolding in_class is_word is_letter is_digit every has pick
name_bare letter t (name {b} h no_more l) f = and_no (eqb (capital b) letter) _ (follow_not (λ c. eqb c dash) refl f)
name_bare letter t (name {b} h (and_then {b = c} x m) l) f =
    and_no (eqb (capital b) letter) _ (test_not (in_class WordByte) c dash refl (word_tests.passes c x))

prefix_bare : {a : List ℕ} {x : Bool} (t : List ℕ) → Prefix 0x57 a x → Bare 0x4f t → Bare 0x4f (a ++ t)
prefix_bare t no_prefix k = k
prefix_bare t (with_prefix {b} c) k = rw c

-- ---- a command's word

no_keyword : (k : Token) (a : List ℕ) → ¬ Keyword k a → spells k a ≡ false
no_keyword k a n = whether (spells k a) (λ e. absurd (n (spells_keyword k a e))) (λ e. e)

no_spells : (k : Token) (a : List ℕ) → spells k a ≡ false → ¬ Keyword k a
no_spells k a e x = false≢true (sym e ∙ keyword_spells k a x)

pub no_property : (a : List ℕ) → ¬ Keyword PriorityToken a → ¬ Keyword EmergencyToken a → ¬ Keyword TopologyToken a → is_property a ≡ false
unfolding is_property
no_property a n m o = rw (no_keyword PriorityToken a n, no_keyword EmergencyToken a m, no_keyword TopologyToken a o)

pub property_no : (a : List ℕ) → is_property a ≡ false → (¬ Keyword PriorityToken a) × (¬ Keyword EmergencyToken a) × (¬ Keyword TopologyToken a)
unfolding is_property
property_no a e =
    let p = or_neither (spells PriorityToken a || spells EmergencyToken a) _ e in
    let q = or_neither (spells PriorityToken a) _ p.0 in
    (no_spells PriorityToken a q.0, no_spells EmergencyToken a q.1, no_spells TopologyToken a p.1)

pub termination_solid : {a : List ℕ} (t : List ℕ) → TerminationID a → Solid (a ++ t)
unfolding is_letter every pick goes_on is_white
termination_solid {a} t (root e) = name_solid t (letters_name a (text "ROOT") refl e)
termination_solid t (named x) = path_solid _ (path_first t x)
termination_solid t choose_one = refl
termination_solid t all_of = refl

-- ---- commands

module _ (s : List ℕ) where
  order_gets : (t : List ℕ) {a : List ℕ} (at : ℕ) → NAME a → is_property a ≡ false → Follow ends t → drop at s ≡ a ++ t → Gets s (order_r s at) a t
  unfolding order_r pick
  order_gets t {a} at n e f h = gets_bind s a (word_r s at) _ (gets_word s t at n (ends_word f) h) (λ p m. rw e (gets_here s a p t m))

  order_got : (w : List ℕ) (at e : ℕ) → order_r s at ≡ got w e → NAME w × (is_property w ≡ false) × (drop at s ≡ w ++ drop e s)
  unfolding order_r pick
  order_got w at e h = bind_got w e (word_r s at) _ h (λ a p m l. given (word_got s a at p m) (λ y. whether (is_property a)
      (λ i. absurd (fault_got w e (rw i at l)))
      (λ i. given (got_same w e (rw i at l)) (λ z. (rw z.0 at y.0, rw z.0 at i, y.1 ∙ rw (z.0, z.1))))))

  command_reads : (w rest : List ℕ) {a : List ℕ} {x : Command} (at : ℕ) → command_request a x → LWSP w → Follow closing rest
      → drop at s ≡ a ++ (w ++ rest) → Gets s (command_r s at) x rest
  unfolding command_r every has pick goes_on is_white
  command_reads w rest at (amm_request {a} {b} {c} {d} {e} {f} {optional} {wild} {is} o i n np ne nt (around {a = u} {b = v} j k) t z) g y h =
      let t₃ = f ++ (w ++ rest) in
      let t₂ = e ++ t₃ in
      let t₁ = u ++ (equal ∷ v ++ t₂) in
      let q : drop at s ≡ a ++ (b ++ (c ++ t₁)) =
      h ∙ regroup6 a b c d e f (w ++ rest) ∙ ap (λ r. a ++ (b ++ (c ++ r))) (append_assoc u (equal ∷ v) t₂) in
      let m : Follow ends t₁ = white_ends j (record { first = refl }) in
      given (prefix_complete 0x4f s (b ++ (c ++ t₁)) at o (prefix_bare (c ++ t₁) i (name_bare 0x4f t₁ n m)) q) (λ q₁.
      given (prefix_complete 0x57 s (c ++ t₁) (prefix_end 0x4f s at) i (name_bare 0x57 t₁ n m) q₁.1) (λ q₂.
      given (braces_led s (top_complete s) z g y) (λ l. rw (q₁.0, q₂.0) (
      gets_bind s c _ _ (gets_spaced s {w = u} _ (order_gets t₁ _ n (no_property c np ne nt) m q₂.1) j refl) (λ p r.
      gets_skip s (sign_at equal s p) _ (sign_complete s p equal t₂ k (termination_solid t₃ t) r) (λ p r.
      gets_bind s e _ _ (gets_spaced s {w = l.white} _
      (rw (← l.split) (gets_part s e t₃ p (termination_at s p) (λ x. x) r (termination_exact s t₃ p t (ends_name (led_ends s refl l)) r)))
      l.is_white (signs_solid (follow_in signs refl l.sign))) (λ p r.
      gets_bind s is (braces_r (top_r s) s p) _ (l.reads p r) (λ p r. gets_here s _ p rest r))))))))

  prefix_solid : {letter : ℕ} {a : List ℕ} {x : Bool} (t : List ℕ) → is_letter letter ≡ true → Prefix letter a x → Solid t → Solid (a ++ t)
  prefix_solid t l no_prefix k = k
  prefix_solid t l (with_prefix {b} e) k = letter_solid b (letter_passes b (capital_letter b (rw e l)))

  command_solid : {a : List ℕ} {x : Command} (t : List ℕ) → command_request a x → Solid (a ++ t)
  unfolding is_letter
  command_solid t (amm_request {a} {b} {c} {d} {e} {f} o i n np ne nt j r z) =
      rw (regroup6 a b c d e f t) (prefix_solid _ refl o (prefix_solid _ refl i (name_solid _ n)))

  pub command_complete : Complete command_request closing s (command_r s)
  command_complete = record { solid = λ a t x y. command_solid t y; reads = λ a w rest x at y v f h. command_reads w rest at y v f h }

  equal_of : {u a : List ℕ} → LWSP u → After equal a → EQUAL (u ++ a)
  equal_of i (after_sign j) = around i j

  -- a command's word and a termination, each with white space behind it
  order_spaced : (a : List ℕ) (at e : ℕ) → spaced s (order_r s at) ≡ got a e
      → (w : List ℕ) × NAME a × (is_property a ≡ false) × LWSP w × (drop at s ≡ a ++ (w ++ drop e s))
  order_spaced a at e h = spaced_got s a e _ h (λ p m l. given (order_got a at p m) (λ y. given (white_sound s p e l) (λ v.
      (v.bytes, y.0, y.1, v.derives, y.2 ∙ ap (λ t. a ++ t) v.split))))

  pub termination_spaced : (a : List ℕ) (at e : ℕ) → spaced s (reading (termination_at s at) (part s at)) ≡ got a e
      → (w : List ℕ) × TerminationID a × LWSP w × (drop at s ≡ a ++ (w ++ drop e s))
  termination_spaced a at e h = spaced_got s a e _ h (λ p m l. given (reading_got a p (termination_at s at) (part s at) m) (λ z.
      given (termination_sound s at p z.0) (λ y. given (white_sound s p e l) (λ v. given (sym y.derives.1 ∙ z.1) (λ i.
      (v.bytes, rw i at y.derives.0, v.derives, y.split ∙ rw (i, v.split)))))))

  pub command_sound : Sound command_request s (command_r s)
  unfolding command_r
  command_sound = record {
    finds = λ x at e h.
        bind_got x e _ _ h (λ c p m l. skip_got x e (sign_at equal s p) _ l
        (λ q n l. bind_got x e _ _ l (λ t r k l. bind_got x e (braces_r (top_r s) s r) _ l (λ is f g l.
        given (got_same x e l) (λ z.
        given (prefix_sound 0x4f s at) (λ y₁.
        given (prefix_sound 0x57 s (prefix_end 0x4f s at)) (λ y₂.
        given (order_spaced c _ p m) (λ y₃.
        given (sign_sound s p equal q (omega arith) n) (λ y₄.
        given (termination_spaced t q r k) (λ y₅.
        given (braces_sound s (Commas top_parameter) (top_r s) (top_sound s) is r e y₅.2 (g ∙ ap (got is) z.1)) (λ y₆. record {
          bytes = y₁.0 ++ y₂.0 ++ c ++ (y₃.0 ++ y₄.bytes) ++ t ++ y₆.bytes;
          white = y₆.white;
          derives =
              rw (← z.0) (amm_request y₁.1 y₂.1 y₃.1 (property_no c y₃.2).0 (property_no c y₃.2).1 (property_no c y₃.2).2
              (equal_of y₃.3 y₄.derives) y₅.1 y₆.derives);
          is_white = y₆.is_white;
          split = y₁.2 ∙ rw (y₂.2, y₃.4, y₄.split, y₅.3, y₆.split) (simp append_assoc);
        })))))))))));
  }

-- A context's properties are read exactly as the grammar derives them.
use Rattle.std.specs.Prelude.{Some}
use Prim.Native.Nat.{ℕ}
use mathlib.Core.Path.{◌≡◌, refl, ap, ◌∙◌}
use mathlib.Core.Bool.{true, false, ◌||◌}
use mathlib.Core.List.{List, ◌++◌, append_assoc}
use lib.ListN.{drop}
use Rattle.base.specs.Pick.{pick}
use Rattle.base.specs.Lists.{part, has, same}
use Rattle.megaco.specs.Bytes.{in_class}
use Rattle.megaco.specs.Keywords.{forms_of, spelt, spells}
use Rattle.megaco.specs.Tokens.{letter_at, row_at, word_at, number_at}
use Rattle.megaco.specs.Tree.{Triple, Property, priority, emergency}
use Rattle.megaco.specs.Reading.{got, key_at, is_property, word_here, topology_r, property_r}
use Rattle.protocol.specs.Types.{PriorityToken, EmergencyToken, TopologyToken, WordByte}
use Rattle.grammar.specs.Characters.{Keyword}
use Rattle.grammar.specs.Grammar.{LWSP, UINT, uint, NAME, topology_descriptor, triples, context_property, with_topology, with_priority, with_emergency}
use Rattle.grammar.proofs.Classes.{or_left, or_right, word_tests, digit_tests}
use Rattle.grammar.proofs.Places.{regroup3, regroup4, Gets, gets_skip, gets_part, gets_number, part_is, pick_next, whether, given, skip_got, number_got, reading_got}
use Rattle.grammar.proofs.WhiteLaws.{Solid, white_sound}
use Rattle.grammar.proofs.RowLaws.{Stops, row_is, up_to_64, number_complete, number_sound}
use Rattle.grammar.proofs.FollowLaws.{Follow, ends, closing, signs_solid, signs_ends, closing_signs, white_ends, around_ends, ends_word, ends_digit, digit_solid}
use Rattle.grammar.proofs.WordLaws.{name_many, word_exact, word_sound, keyword_spells, spells_keyword, priority_name, emergency_name, topology_name}
use Rattle.grammar.proofs.ListLaws.{Spaced, gets_spaced, spaced_got, key_complete, key_sound, Complete, Sound}
use Rattle.grammar.proofs.ItemLaws.{name_solid}
use Rattle.grammar.proofs.TopologyLaws.{keyword_only, topology_reads, topology_finds}

-- ---- the whole word that stands at a place

pub word_here_lem : (s rest : List ℕ) {a : List ℕ} (at : ℕ) → NAME a → Stops (in_class WordByte) rest → drop at s ≡ a ++ rest → word_here s at ≡ a
unfolding word_here
word_here_lem s rest {a} at n k h = rw (row_is WordByte word_tests s rest at (name_many n) k h) (part_is s a rest at h)

pub word_read : (s : List ℕ) (at e : ℕ) → word_at s at ≡ Some e → word_here s at ≡ part s at e
unfolding word_at word_here
word_read s at e h = ap (part s at) (up_to_64 at (row_at WordByte s at) e (pick_next (letter_at s at) _ e h).1).0

-- ---- a property's word is no other's

priority_only : (a : List ℕ) → Keyword PriorityToken a → (spells EmergencyToken a ≡ false) × (spells TopologyToken a ≡ false)
unfolding forms_of spelt same pick
priority_only a x = (keyword_only PriorityToken EmergencyToken a x refl, keyword_only PriorityToken TopologyToken a x refl)

topology_only : (a : List ℕ) → Keyword TopologyToken a → spells EmergencyToken a ≡ false
unfolding forms_of spelt same pick
topology_only a x = keyword_only TopologyToken EmergencyToken a x refl

descriptor_word : (s t : List ℕ) {a : List ℕ} {ts : List Triple} (at : ℕ) → topology_descriptor a ts → drop at s ≡ a ++ t → Keyword TopologyToken (word_here s at)
unfolding has pick
descriptor_word s t at (triples {a} {b} {c} {d} k l y r) h =
    rw (word_here_lem s _ at (topology_name k) (ends_word (around_ends (c ++ (d ++ t)) refl l)) (h ∙ regroup4 a b c d t)) k

descriptor_solid : {a : List ℕ} {ts : List Triple} (t : List ℕ) → topology_descriptor a ts → Solid (a ++ t)
descriptor_solid t (triples {a} {b} {c} {d} k l y r) = rw (regroup4 a b c d t) (name_solid _ (topology_name k))

-- ---- complete

pub uint_solid : {most limit v : ℕ} {a : List ℕ} (t : List ℕ) → UINT most limit a v → Solid (a ++ t)
uint_solid t (uint {b} d ds m l) = digit_solid b (digit_tests.passes b d)

module _ (s : List ℕ) where
  property_reads : (w rest : List ℕ) {a : List ℕ} {x : Property} (at : ℕ) → context_property a x → LWSP w → Follow closing rest
      → drop at s ≡ a ++ (w ++ rest) → Gets s (property_r s at) x rest
  unfolding property_r pick has
  property_reads w rest at (with_topology x) v f h = given (descriptor_word s (w ++ rest) at x h) (λ k.
      rw (topology_only (word_here s at) k, keyword_spells TopologyToken (word_here s at) k) (topology_reads s w rest at x v f h))
  property_reads w rest at (with_priority {a} {b} {c} {n} x y d) v f h =
      let k : Follow ends (w ++ rest) = white_ends v (signs_ends (closing_signs f)) in
      let q : drop at s ≡ a ++ (b ++ (c ++ (w ++ rest))) = h ∙ regroup3 a b c (w ++ rest) in
      rw (word_here_lem s _ at (priority_name x) (ends_word (around_ends (c ++ (w ++ rest)) refl y)) q, (priority_only a x).0, (priority_only a x).1) (
      gets_skip s (key_at PriorityToken s at) _ (key_complete PriorityToken s (c ++ (w ++ rest)) at x (priority_name x) y (uint_solid (w ++ rest) d) q)
      (λ p m.
      gets_spaced s {w = w} _ (gets_number s n _ priority (number_complete s (w ++ rest) p 5 99999 d (ends_digit k) m)) v
      (signs_solid (closing_signs f))))
  property_reads w rest at (with_emergency {a} x) v f h =
      let k : Follow ends (w ++ rest) = white_ends v (signs_ends (closing_signs f)) in
      rw (word_here_lem s (w ++ rest) at (emergency_name x) (ends_word k) h, keyword_spells EmergencyToken a x) (
      gets_spaced s {w = w} _ (gets_part s a (w ++ rest) at _ (λ y. emergency) h (word_exact s (w ++ rest) at (emergency_name x) (ends_word k) h)) v
      (signs_solid (closing_signs f)))

  property_solid : {a : List ℕ} {x : Property} (t : List ℕ) → context_property a x → Solid (a ++ t)
  property_solid t (with_topology x) = descriptor_solid t x
  property_solid t (with_priority {a} {b} {c} x y d) = rw (regroup3 a b c t) (name_solid _ (priority_name x))
  property_solid t (with_emergency x) = name_solid t (emergency_name x)

  pub property_complete : Complete context_property closing s (property_r s)
  property_complete = record { solid = λ a t x y. property_solid t y; reads = λ a w rest x at y v f h. property_reads w rest at y v f h }

  -- a property begins with one of its words
  pub property_word : {a : List ℕ} {x : Property} (t : List ℕ) (at : ℕ) → context_property a x → Follow ends t → drop at s ≡ a ++ t
      → is_property (word_here s at) ≡ true
  unfolding is_property has pick
  property_word t at (with_topology x) f h =
      or_right (spells PriorityToken (word_here s at) || spells EmergencyToken (word_here s at)) _
      (keyword_spells TopologyToken (word_here s at) (descriptor_word s t at x h))
  property_word t at (with_priority {a} {b} {c} x y d) f h =
      rw (word_here_lem s _ at (priority_name x) (ends_word (around_ends (c ++ t) refl y)) (h ∙ regroup3 a b c t))
      (or_left _ _ (or_left _ _ (keyword_spells PriorityToken a x)))
  property_word t at (with_emergency {a} x) f h =
      rw (word_here_lem s t at (emergency_name x) (ends_word f) h)
      (or_left _ _ (or_right (spells PriorityToken a) _ (keyword_spells EmergencyToken a x)))

  -- ---- sound

  property_finds : (x : Property) (at e : ℕ) → property_r s at ≡ got x e → Spaced (λ a. context_property a x) (drop at s) (drop e s)
  unfolding property_r pick
  property_finds x at e h = whether (spells EmergencyToken (word_here s at))
      (λ t. spaced_got s x e _ (rw t at h) (λ p m l. given (reading_got x p (word_at s at) _ m)
      (λ z. given (word_sound s at p z.0) (λ y. given (white_sound s p e l) (λ v.
      let i : word_here s at ≡ y.bytes = word_read s at p z.0 ∙ y.derives.1 in
      record {
        bytes = y.bytes;
        white = v.bytes;
        is_white = v.derives;
        derives = rw (← z.1) (with_emergency (spells_keyword EmergencyToken y.bytes (rw i at t)));
        split = y.split ∙ ap (λ r. y.bytes ++ r) v.split;
      })))))
      (λ t. given (rw t at h) (λ h. whether (spells TopologyToken (word_here s at))
      (λ t. topology_finds s x at e (λ p m. rw (word_read s at p m) at t) (rw t at h))
      (λ t. skip_got x e (key_at PriorityToken s at) _ (rw t at h)
      (λ p m l. spaced_got s x e _ l (λ q l o. number_got x q (number_at s p 5 99999) priority l (λ n c z.
      given (key_sound PriorityToken s at p m) (λ y₁. given (number_sound s p 5 99999 n q c) (λ y₂. given (white_sound s q e o) (λ v. record {
        bytes = y₁.0 ++ y₁.1 ++ y₂.bytes;
        white = v.bytes;
        is_white = v.derives;
        derives = rw (← z) (with_priority y₁.2 y₁.3 y₂.derives);
        split = y₁.4 ∙ rw (y₂.split, v.split) (simp append_assoc);
      })))))))))

  pub property_sound : Sound context_property s (property_r s)
  property_sound = record { finds = property_finds }

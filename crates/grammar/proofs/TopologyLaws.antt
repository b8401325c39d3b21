-- A context's topology is read exactly as the grammar derives it.
use Rattle.std.specs.Prelude.{Some}
use Prim.Native.Nat.{ℕ}
use mathlib.Core.Path.{◌≡◌, refl, sym, ap, ◌∙◌}
use mathlib.Core.Bool.{Bool, true, false, not, ◌&&◌}
use mathlib.Core.List.{List, [], ◌∷◌, ◌++◌, append_assoc}
use lib.ListN.{drop}
use borrow.Author.Tests.{not-true}
use native.Mathlib.Omega.{arith}
use Rattle.base.specs.Pick.{pick}
use Rattle.base.specs.Lists.{part, has, same}
use Rattle.base.specs.Bytes.{text}
use Rattle.megaco.specs.Bytes.{comma, left_brace, right_brace, is_white, capitals}
use Rattle.megaco.specs.White.{goes_on, after, white_at}
use Rattle.megaco.specs.Keywords.{Forms, forms, forms_of, spelt, spells}
use Rattle.megaco.specs.Tokens.{sign_at, word_at, termination_at}
use Rattle.megaco.specs.Tree.{Triple, triple, Property, topology}
use Rattle.megaco.specs.Reading.{got, list_r, unlimited, word_r, direction_r, party_r, triple_r, topology_r}
use Rattle.protocol.specs.Types.{Token, TopologyToken, IsolateToken, OnewayToken, BothwayToken, Direction, Isolate, Oneway, Bothway}
use Rattle.grammar.specs.Characters.{Spelling, long, short, Keyword}
use Rattle.grammar.specs.Grammar.{LWSP, no_lwsp, around, Commas, TerminationID, topology_direction, bothway, isolate, oneway, topology_triple, between, topology_descriptor, triples, context_property, with_topology}
use Rattle.grammar.proofs.Classes.{and_parts}
use Rattle.grammar.proofs.Places.{regroup5, Gets, finds, finds_after, gets_here, gets_skip, gets_bind, gets_part, whether, given, fault_got, got_same, skip_got, bind_got, after_next}
use Rattle.grammar.proofs.WhiteLaws.{Solid, white_append, white_complete, white_sound}
use Rattle.grammar.proofs.RowLaws.{After, after_sign, sign_complete, sign_sound}
use Rattle.grammar.proofs.FollowLaws.{Follow, ends, signs, closing, signs_solid, signs_ends, closing_signs, white_ends, ends_word, ends_name}
use Rattle.grammar.proofs.WordLaws.{word_exact, word_sound, keyword_spells, spells_keyword, topology_name, isolate_name, oneway_name, bothway_name}
use Rattle.grammar.proofs.NameLaws.{termination_exact}
use Rattle.grammar.proofs.ListLaws.{Spaced, gets_spaced, spaced_got, gets_word, word_got, Complete, Sound, list_complete_all, list_sound_all}
use Rattle.grammar.proofs.ItemLaws.{name_solid}
use Rattle.grammar.proofs.CommandLaws.{termination_solid, termination_spaced}

-- ---- keywords with no form in common

abbrev pub apart : Forms → Forms → Bool
apart (forms l s) g = not (spelt g l) && not (spelt g s)

spelling_apart : {f : Forms} {a : List ℕ} (g : Forms) → Spelling f a → apart f g ≡ true → spelt g (capitals a) ≡ false
spelling_apart g (long {l} e) t = rw e (not-true _ (and_parts (not (spelt g l)) _ t).0)
spelling_apart g (short {l} e) t = rw e (not-true _ (and_parts (not (spelt g l)) _ t).1)

pub keyword_only : (j k : Token) (a : List ℕ) → Keyword j a → apart (forms_of j) (forms_of k) ≡ true → spells k a ≡ false
unfolding spells
keyword_only j k a x t = spelling_apart (forms_of k) x t

-- ---- parts one after another

regroup_triple : (a u o c v p e r : List ℕ) → (a ++ (u ++ o) ++ c ++ (v ++ p) ++ e) ++ r ≡ a ++ (u ++ (o ++ (c ++ (v ++ (p ++ (e ++ r))))))
regroup_triple a u o c v p e r = simp append_assoc

regroup_descriptor : (a u o c v p r : List ℕ) → (a ++ (u ++ o) ++ c ++ (v ++ p)) ++ r ≡ a ++ (u ++ (o ++ (c ++ (v ++ (p ++ r)))))
regroup_descriptor a u o c v p r = simp append_assoc

direction_solid : {a : List ℕ} {x : Direction} (t : List ℕ) → topology_direction a x → Solid (a ++ t)
direction_solid t (bothway k) = name_solid t (bothway_name k)
direction_solid t (isolate k) = name_solid t (isolate_name k)
direction_solid t (oneway k) = name_solid t (oneway_name k)

module _ (s : List ℕ) where
  -- ---- a direction

  direction_gets : (t : List ℕ) {a : List ℕ} {x : Direction} (at : ℕ) → topology_direction a x → Follow ends t → drop at s ≡ a ++ t
      → Gets s (direction_r s at) x t
  unfolding direction_r forms_of spelt same pick
  direction_gets t at (bothway {a} k) f h =
      gets_bind s a (word_r s at) _ (gets_word s t at (bothway_name k) (ends_word f) h) (λ p m.
      rw (keyword_only BothwayToken IsolateToken a k refl, keyword_only BothwayToken OnewayToken a k refl, keyword_spells BothwayToken a k) (gets_here s Bothway p t m))
  direction_gets t at (isolate {a} k) f h =
      gets_bind s a (word_r s at) _ (gets_word s t at (isolate_name k) (ends_word f) h) (λ p m.
      rw (keyword_spells IsolateToken a k) (gets_here s Isolate p t m))
  direction_gets t at (oneway {a} k) f h =
      gets_bind s a (word_r s at) _ (gets_word s t at (oneway_name k) (ends_word f) h) (λ p m.
      rw (keyword_only OnewayToken IsolateToken a k refl, keyword_spells OnewayToken a k) (gets_here s Oneway p t m))

  direction_got : (x : Direction) (at e : ℕ) → direction_r s at ≡ got x e → (a : List ℕ) × topology_direction a x × (drop at s ≡ a ++ drop e s)
  unfolding direction_r pick
  direction_got x at e h = bind_got x e (word_r s at) _ h (λ a p m l. given (word_got s a at p m) (λ y. whether (spells IsolateToken a)
      (λ t. one Isolate a p (isolate (spells_keyword IsolateToken a t)) y.1 (rw t at l)) (λ t.
      given (rw t at l) (λ l. whether (spells OnewayToken a) (λ t. one Oneway a p (oneway (spells_keyword OnewayToken a t)) y.1 (rw t at l)) (λ t.
      given (rw t at l) (λ l. whether (spells BothwayToken a) (λ t. one Bothway a p (bothway (spells_keyword BothwayToken a t)) y.1 (rw t at l)) (λ t.
      absurd (fault_got x e (rw t at l)))))))))
    where
      one : (d : Direction) (a : List ℕ) (p : ℕ) → topology_direction a d → drop at s ≡ a ++ drop p s → got d p ≡ got x e
          → (b : List ℕ) × topology_direction b x × (drop at s ≡ b ++ drop e s)
      one d a p k q l = given (got_same x e l) (λ z. (a, rw z.0 at k, rw z.1 at q))

  -- ---- a triple

  party_gets : (w rest : List ℕ) {a : List ℕ} (at : ℕ) → TerminationID a → LWSP w → Follow signs rest → drop at s ≡ a ++ (w ++ rest)
      → Gets s (party_r s at) a rest
  unfolding party_r
  party_gets w rest {a} at k v f h =
      gets_spaced s {w = w} _ (gets_part s a (w ++ rest) at (termination_at s at) (λ x. x) h
      (termination_exact s (w ++ rest) at k (ends_name (white_ends v (signs_ends f))) h)) v (signs_solid f)

  triple_reads : (w rest : List ℕ) {a : List ℕ} {x : Triple} (at : ℕ) → topology_triple a x → LWSP w → Follow closing rest
      → drop at s ≡ a ++ (w ++ rest) → Gets s (triple_r s at) x rest
  unfolding triple_r has pick
  triple_reads w rest at (between {a} {c} {e} {x} k (around {a = u₁} {b = v₁} i₁ j₁) l (around {a = u₂} {b = v₂} i₂ j₂) y) v f h =
      let t₄ = e ++ (w ++ rest) in
      let t₃ = u₂ ++ (comma ∷ v₂ ++ t₄) in
      let t₂ = c ++ t₃ in
      let g : drop at s ≡ a ++ (u₁ ++ (comma ∷ v₁ ++ t₂)) = h ∙ regroup_triple a u₁ (comma ∷ v₁) c u₂ (comma ∷ v₂) e (w ++ rest) in
      gets_bind s a (party_r s at) _ (party_gets u₁ (comma ∷ v₁ ++ t₂) at k i₁ (record { first = refl }) g) (λ p m.
      gets_skip s (sign_at comma s p) _ (sign_complete s p comma t₂ j₁ (termination_solid t₃ l) m) (λ p m.
      gets_bind s c (party_r s p) _ (party_gets u₂ (comma ∷ v₂ ++ t₄) p l i₂ (record { first = refl }) m) (λ p m.
      gets_skip s (sign_at comma s p) _ (sign_complete s p comma t₄ j₂ (direction_solid (w ++ rest) y) m) (λ p m.
      gets_bind s x _ _ (gets_spaced s {w = w} _ (direction_gets (w ++ rest) p y (white_ends v (signs_ends (closing_signs f))) m) v
      (signs_solid (closing_signs f))) (λ p m.
      gets_here s (triple a c x) p rest m)))))

  triple_solid : {a : List ℕ} {x : Triple} (t : List ℕ) → topology_triple a x → Solid (a ++ t)
  triple_solid t (between {a} {b} {c} {d} {e} k i l j y) = rw (regroup5 a b c d e t) (termination_solid _ k)

  triple_complete : Complete topology_triple closing s (triple_r s)
  triple_complete = record { solid = λ a t x y. triple_solid t y; reads = λ a w rest x at y v f h. triple_reads w rest at y v f h }

  triple_of : {a u o b v p e : List ℕ} {x : Direction} → TerminationID a → LWSP u → After comma o → TerminationID b → LWSP v → After comma p
      → topology_direction e x → topology_triple (a ++ (u ++ o) ++ b ++ (v ++ p) ++ e) (triple a b x)
  triple_of k i (after_sign j) l m (after_sign n) d = between k (around i j) l (around m n) d

  triple_sound : Sound topology_triple s (triple_r s)
  unfolding triple_r party_r
  triple_sound = record {
    finds = λ x at e h.
        bind_got x e _ _ h (λ a p m l. skip_got x e (sign_at comma s p) _ l
        (λ q n l. bind_got x e _ _ l (λ b r k l. skip_got x e (sign_at comma s r) _ l
        (λ u o l. bind_got x e _ _ l (λ d f g l. given (got_same x e l) (λ z.
        given (termination_spaced s a at p m) (λ y₁.
        given (sign_sound s p comma q (omega arith) n) (λ y₂.
        given (termination_spaced s b q r k) (λ y₃.
        given (sign_sound s r comma u (omega arith) o) (λ y₄.
        spaced_got s d f _ g (λ c w i. given (direction_got d u c w) (λ y₅.
        given (white_sound s c e (i ∙ ap Some z.1)) (λ y₆. record {
          bytes = a ++ (y₁.0 ++ y₂.bytes) ++ b ++ (y₃.0 ++ y₄.bytes) ++ y₅.0;
          white = y₆.bytes;
          derives = rw (← z.0) (triple_of y₁.1 y₁.2 y₂.derives y₃.1 y₃.2 y₄.derives y₅.1);
          is_white = y₆.derives;
          split = y₁.3 ∙ rw (y₂.split, y₃.3, y₄.split, y₅.2, y₆.split) (simp append_assoc);
        })))))))))))));
  }

  -- ---- triples in braces behind the keyword

  pub topology_reads : (w rest : List ℕ) {a : List ℕ} {ts : List Triple} (at : ℕ) → topology_descriptor a ts → LWSP w → Follow closing rest
      → drop at s ≡ a ++ (w ++ rest) → Gets s (topology_r s at) (topology ts) rest
  unfolding topology_r has pick goes_on is_white
  topology_reads w rest at (triples {a} {c} {ts} k (around {a = u₁} {b = v₁} i₁ j₁) y (around {a = u₂} {b = v₂} i₂ j₂)) v f h =
      let t₃ = right_brace ∷ v₂ ++ (w ++ rest) in
      let t₂ = c ++ (u₂ ++ t₃) in
      let t₁ = left_brace ∷ v₁ ++ t₂ in
      let g : drop at s ≡ a ++ (u₁ ++ t₁) = h ∙ regroup_descriptor a u₁ (left_brace ∷ v₁) c u₂ (right_brace ∷ v₂) (w ++ rest) in
      let all : Complete (Commas topology_triple) (text "}") s (list_r (triple_r s) s (unlimited s)) =
      list_complete_all topology_triple s (triple_r s) triple_complete in
      gets_skip s (after (word_at s at) (white_at s)) _ (finds_after s _ _
      (finds s a (u₁ ++ t₁) at _ g (word_exact s (u₁ ++ t₁) at (topology_name k) (ends_word (white_ends i₁ (record { first = refl }))) g))
      (λ p m. white_complete s t₁ p i₁ refl m)) (λ p m.
      gets_skip s (sign_at left_brace s p) _ (sign_complete s p left_brace t₂ j₁ (all.solid c (u₂ ++ t₃) ts y) m) (λ p m.
      gets_bind s ts (list_r (triple_r s) s (unlimited s) p) _ (all.reads c u₂ t₃ ts p y i₂ (record { first = refl }) m) (λ p m.
      gets_skip s (sign_at right_brace s p) _ (sign_complete s p right_brace rest (white_append j₂ v) (signs_solid (closing_signs f))
      (m ∙ sym (append_assoc (right_brace ∷ v₂) w rest))) (λ p m.
      gets_here s (topology ts) p rest m))))

  topology_of : {a u o c v p : List ℕ} {ts : List Triple} → Keyword TopologyToken a → LWSP u → After left_brace o → Commas topology_triple c ts → LWSP v
      → After right_brace p → context_property (a ++ (u ++ o) ++ c ++ (v ++ p)) (topology ts)
  topology_of k i (after_sign j) y m (after_sign n) = with_topology (triples k (around i j) y (around m n))

  pub topology_finds : (x : Property) (at e : ℕ) → ((p : ℕ) → word_at s at ≡ Some p → spells TopologyToken (part s at p) ≡ true)
      → topology_r s at ≡ got x e → Spaced (λ a. context_property a x) (drop at s) (drop e s)
  unfolding topology_r
  topology_finds x at e k h =
      skip_got x e (after (word_at s at) (white_at s)) _ h (λ p m l. after_next _ _ p m (λ n o d.
      skip_got x e (sign_at left_brace s p) _ l (λ q g l. bind_got x e (list_r (triple_r s) s (unlimited s) q) _ l (λ ts r b l.
      skip_got x e (sign_at right_brace s r) _ l (λ f j l. given (got_same x e l) (λ z.
      given (word_sound s at n o) (λ y₁.
      given (white_sound s n p d) (λ y₂.
      given (sign_sound s p left_brace q (omega arith) g) (λ y₃.
      given ((list_sound_all topology_triple s (triple_r s) triple_sound).finds ts q r b) (λ y₄.
      given (sign_sound s r right_brace e (omega arith) (j ∙ ap Some z.1)) (λ y₅. record {
        bytes = y₁.bytes ++ (y₂.bytes ++ y₃.bytes) ++ y₄.bytes ++ (y₄.white ++ y₅.bytes);
        white = [];
        derives =
            rw (← z.0) (topology_of (spells_keyword TopologyToken y₁.bytes (rw y₁.derives.1 at (k n o))) y₂.derives y₃.derives
            y₄.derives y₄.is_white y₅.derives);
        is_white = no_lwsp;
        split = y₁.split ∙ rw (y₂.split, y₃.split, y₄.split, y₅.split) (simp append_assoc);
      })))))))))))

-- Parts with white space after them, and the one law of every list joined by commas.
use Rattle.std.specs.Prelude.{Some}
use Prim.Native.Nat.{ℕ, zero, suc, ◌+◌, ◌<◌, ◌≤◌}
use mathlib.Core.Path.{◌≡◌, refl, sym, ap, ◌∙◌}
use mathlib.Core.Bool.{false}
use mathlib.Core.List.{List, [], ◌∷◌, ◌++◌, append_assoc}
use lib.ListN.{length, drop, length-append}
use lib.Dec.{eqb}
use native.Mathlib.Omega.{arith}
use Rattle.base.specs.Pick.{pick}
use Rattle.base.specs.Lists.{is_at, every, has}
use Rattle.base.specs.Bytes.{text}
use Rattle.megaco.specs.Bytes.{equal, comma, is_white, in_class}
use Rattle.megaco.specs.White.{goes_on, after, white_at}
use Rattle.megaco.specs.Tokens.{sign_at}
use Rattle.megaco.specs.Reading.{Read, got, spaced, list_r, unlimited, key_at, word_r}
use Rattle.protocol.specs.Types.{Token, WordByte}
use Rattle.grammar.specs.Characters.{Keyword}
use Rattle.grammar.specs.Grammar.{LWSP, Around, around, EQUAL, Commas, single, joined, AtMost, at_most, NAME}
use Rattle.grammar.proofs.Places.{regroup3, Stands, Finds, Gets, finds, gets_here, finds_after, gets_skip, gets_bind, gets_part, part_fits, is_at_head, whether, given, fault_got, got_same, skip_got, bind_got, reading_got, after_next}
use Rattle.grammar.proofs.WhiteLaws.{Solid, white_complete, white_sound}
use Rattle.grammar.proofs.RowLaws.{Stops, After, after_sign, sign_complete, sign_sound}
use Rattle.grammar.proofs.FollowLaws.{Follow, closing, follow_not, brace_closing, around_ends, ends_word}
use Rattle.grammar.proofs.WordLaws.{word_exact, word_sound, keyword_complete, keyword_sound}

-- ---- a part, and white space after it

pub gets_spaced : {A : Type 0} (s : List ℕ) {x : A} {w rest : List ℕ} (r : Read A) → Gets s r x (w ++ rest) → LWSP w → Solid rest
    → Gets s (spaced s r) x rest
unfolding spaced
gets_spaced s {x} {w} {rest} r g v k =
    gets_bind s x r _ g (λ p h. gets_skip s (white_at s p) (got x) (white_complete s rest p v k h) (λ q l. gets_here s x q rest l))

pub spaced_got : {A C : Type 0} (s : List ℕ) (x : A) (e : ℕ) (r : Read A) → spaced s r ≡ got x e → ((p : ℕ) → r ≡ got x p → white_at s p ≡ Some e → C)
    → C
unfolding spaced
spaced_got s x e r h k =
    bind_got x e r _ h (λ y p i l. skip_got x e (white_at s p) (got y) l (λ q m n. let z = got_same x e n in k p (i ∙ ap (λ u. got u p) z.0)
    (m ∙ ap Some z.1)))

-- a part of the grammar stands here with white space behind it
pub record Spaced (X : List ℕ → Type 0) (t rest : List ℕ) : Type 0 where
  pub bytes : List ℕ
  pub white : List ℕ
  pub derives : X bytes
  pub is_white : LWSP white
  pub split : t ≡ bytes ++ (white ++ rest)

-- ---- words and keywords in the tree

pub gets_word : (s rest : List ℕ) {a : List ℕ} (at : ℕ) → NAME a → Stops (in_class WordByte) rest → drop at s ≡ a ++ rest → Gets s (word_r s at) a rest
unfolding word_r
gets_word s rest {a} at n k h = gets_part s a rest at _ (λ x. x) h (word_exact s rest at n k h)

pub word_got : (s w : List ℕ) (at e : ℕ) → word_r s at ≡ got w e → NAME w × (drop at s ≡ w ++ drop e s)
unfolding word_r
word_got s w at e h =
    let p = reading_got w e _ _ h in
    let r = word_sound s at e p.0 in
    let z : r.bytes ≡ w = sym r.derives.1 ∙ p.1 in
    (rw z at r.derives.0, rw z at r.split)

-- ---- a sign with white space on both sides

pub around_complete : (s rest : List ℕ) {a : List ℕ} (b at : ℕ) → Around b a → goes_on false b ≡ false → Solid rest → drop at s ≡ a ++ rest
    → Finds s (after (white_at s at) (sign_at b s)) rest
around_complete s rest b at (around {a} {b = c} v w) g k h =
    finds_after s (white_at s at) (sign_at b s) (white_complete s (b ∷ c ++ rest) at v g (h ∙ append_assoc a (b ∷ c) rest))
    (λ p l. sign_complete s p b rest w k l)

pub around_sound : (s : List ℕ) (b at e : ℕ) → 0 < b → after (white_at s at) (sign_at b s) ≡ Some e → Stands (Around b) Solid (drop at s) (drop e s)
around_sound s b at e z h = after_next _ _ e h (λ p m l.
    given (white_sound s at p m) (λ w. given (sign_sound s p b e z l) (λ g. record {
      bytes = w.bytes ++ g.bytes;
      derives = joint w.derives g.derives;
      split = w.split ∙ rw g.split (sym (append_assoc w.bytes g.bytes (drop e s)));
      stops = g.stops;
    })))
  where
    joint : {a c : List ℕ} → LWSP a → After b c → Around b (a ++ c)
    joint v (after_sign w) = around v w

pub key_complete : (k : Token) (s rest : List ℕ) {a b : List ℕ} (at : ℕ) → Keyword k a → NAME a → EQUAL b → Solid rest → drop at s ≡ a ++ (b ++ rest)
    → Finds s (key_at k s at) rest
unfolding key_at has pick goes_on is_white
key_complete k s rest at x n y l h =
    finds_after s _ _ (keyword_complete k s _ at x n (ends_word (around_ends rest refl y)) h) (λ p m. around_complete s rest equal p y refl l m)

pub key_sound : (k : Token) (s : List ℕ) (at e : ℕ) → key_at k s at ≡ Some e
    → (a b : List ℕ) × Keyword k a × EQUAL b × (drop at s ≡ a ++ (b ++ drop e s))
unfolding key_at
key_sound k s at e h = after_next _ _ e h (λ p m l.
    given (keyword_sound k s at p m) (λ w. given (around_sound s equal p e (omega arith) l) (λ g.
    (w.bytes, g.bytes, w.derives, g.derives, w.split ∙ ap (λ t. w.bytes ++ t) g.split))))

-- ---- a reader and a rule of the grammar

-- what the rule derives is read, white space behind it too, where one of a few bytes follows
pub record Complete {A : Type 0} (X : List ℕ → A → Type 0) (follow s : List ℕ) (r : ℕ → Read A) : Type 0 where
  pub solid : (a t : List ℕ) (x : A) → X a x → Solid (a ++ t)
  pub reads : (a w rest : List ℕ) (x : A) (at : ℕ) → X a x → LWSP w → Follow follow rest → drop at s ≡ a ++ (w ++ rest) → Gets s (r at) x rest

-- what is read is derived by the rule
pub record Sound {A : Type 0} (X : List ℕ → A → Type 0) (s : List ℕ) (r : ℕ → Read A) : Type 0 where
  pub finds : (x : A) (at e : ℕ) → r at ≡ got x e → Spaced (λ a. X a x) (drop at s) (drop e s)

-- ---- X *(COMMA X)

module _ {A : Type 0} (X : List ℕ → A → Type 0) (s : List ℕ) (r : ℕ → Read A) where
  commas_solid : Complete X closing s r → (t : List ℕ) {a : List ℕ} {xs : List A} → Commas X a xs → Solid (a ++ t)
  commas_solid c t (single {a} {x} y) = c.solid a t x y
  commas_solid c t (joined {a} {b} {c = d} {x} y k ys) = rw (regroup3 a b d t) (c.solid a (b ++ (d ++ t)) x y)

  list_reads : Complete X closing s r → (k : ℕ) {a : List ℕ} {xs : List A} → Commas X a xs → length xs ≤ k → (w rest : List ℕ) (at : ℕ) → LWSP w
      → Follow (text "}") rest
      → drop at s ≡ a ++ (w ++ rest) → Gets s (list_r r s k at) xs rest
  unfolding list_r every has pick
  list_reads c zero (single y) l w rest at v f h = absurd (omega arith)
  list_reads c zero (joined y k ys) l w rest at v f h = absurd (omega arith)
  list_reads c (suc k) (single {a} {x} y) l w rest at v f h =
      gets_bind s x (r at) _ (c.reads a w rest x at y v (brace_closing f) h) (λ p m.
      rw (is_at_head s rest p comma m, follow_not (λ b. eqb b comma) refl f) (gets_here s (x ∷ []) p rest m))
  list_reads c (suc k) (joined {a} {c = d} {x} {xs} y (around {a = u} {b = o} i j) ys) l w rest at v f h =
      let t = d ++ (w ++ rest) in
      let g : drop at s ≡ a ++ (u ++ (comma ∷ o ++ t)) =
      h ∙ regroup3 a (u ++ comma ∷ o) d (w ++ rest) ∙ ap (λ z. a ++ z) (append_assoc u (comma ∷ o) t) in
      gets_bind s x (r at) _ (c.reads a u (comma ∷ o ++ t) x at y i (record { first = refl }) g) (λ p m.
      rw (is_at_head s (comma ∷ o ++ t) p comma m) (
      gets_skip s (sign_at comma s p) _ (sign_complete s p comma t j (commas_solid c (w ++ rest) ys) m) (λ q n.
      gets_bind s xs (list_r r s k q) _ (list_reads c k ys (omega arith) w rest q v f n) (λ e z. gets_here s (x ∷ xs) e rest z))))

  -- as many as there is room for in the message
  commas_long : {a : List ℕ} {xs : List A} → Commas X a xs → length xs ≤ length a + 1
  commas_long (single y) = omega arith
  commas_long (joined {a} {c = d} y (around {a = u} {b = o} i j) ys) =
      rw (length-append (a ++ (u ++ comma ∷ o)) d, length-append a (u ++ comma ∷ o), length-append u (comma ∷ o)) (omega (arith, commas_long ys))

  pub list_complete : Complete X closing s r → (k : ℕ) → Complete (AtMost k (Commas X)) (text "}") s (list_r r s k)
  list_complete c k = record { solid = first; reads = all }
    where
      first : (a t : List ℕ) (xs : List A) → AtMost k (Commas X) a xs → Solid (a ++ t)
      first a t xs (at_most ys l) = commas_solid c t ys

      all : (a w rest : List ℕ) (xs : List A) (at : ℕ) → AtMost k (Commas X) a xs → LWSP w → Follow (text "}") rest → drop at s ≡ a ++ (w ++ rest)
          → Gets s (list_r r s k at) xs rest
      all a w rest xs at (at_most ys l) v f h = list_reads c k ys l w rest at v f h

  pub list_complete_all : Complete X closing s r → Complete (Commas X) (text "}") s (list_r r s (unlimited s))
  unfolding unlimited
  list_complete_all c = record {
    solid = λ a t xs ys. commas_solid c t ys;
    reads = λ a w rest xs at ys v f h.
        list_reads c (length s + 1) ys (omega (arith, commas_long ys, part_fits s a (w ++ rest) at h)) w rest at v f h;
  }

  -- ---- and back

  list_joined : {k : ℕ} {a u o d : List ℕ} {x : A} {ys xs : List A} → X a x → LWSP u → After comma o → AtMost k (Commas X) d ys → x ∷ ys ≡ xs
      → AtMost (suc k) (Commas X) (a ++ (u ++ o) ++ d) xs
  list_joined y i (after_sign j) (at_most ys l) z = rw (← z) (at_most (joined y (around i j) ys) (omega arith))

  list_finds : Sound X s r → (k : ℕ) (xs : List A) (at e : ℕ) → list_r r s k at ≡ got xs e
      → Spaced (λ a. AtMost k (Commas X) a xs) (drop at s) (drop e s)
  unfolding list_r pick
  list_finds c zero xs at e h = absurd (fault_got xs e h)
  list_finds c (suc k) xs at e h =
      bind_got xs e (r at) _ h (λ x p m l. given (c.finds x at p m) (λ y. whether (is_at s p comma)
      (λ i. skip_got xs e (sign_at comma s p) _ (rw i at l) (λ q n l. bind_got xs e (list_r r s k q) _ l (λ ys f o l. given (got_same xs e l) (λ z.
      given (sign_sound s p comma q (omega arith) n) (λ g. given (list_finds c k ys q e (o ∙ ap (got ys) z.1)) (λ t. record {
        bytes = y.bytes ++ (y.white ++ g.bytes) ++ t.bytes;
        white = t.white;
        derives = list_joined y.derives y.is_white g.derives t.derives z.0;
        is_white = t.is_white;
        split = y.split ∙ rw (g.split, t.split) (simp append_assoc);
      }))))))
      (λ i. given (got_same xs e (rw i at l)) (λ z. record {
        bytes = y.bytes;
        white = y.white;
        derives = rw (← z.0) (at_most (single y.derives) (omega arith));
        is_white = y.is_white;
        split = rw (← z.1) y.split;
      }))))

  pub list_sound : Sound X s r → (k : ℕ) → Sound (AtMost k (Commas X)) s (list_r r s k)
  list_sound c k = record { finds = list_finds c k }

  pub list_sound_all : Sound X s r → Sound (Commas X) s (list_r r s (unlimited s))
  list_sound_all c = record { finds = λ xs at e h. loose (list_finds c (unlimited s) xs at e h) }
    where
      without : {k : ℕ} {a : List ℕ} {xs : List A} → AtMost k (Commas X) a xs → Commas X a xs
      without (at_most ys l) = ys

      loose : {k : ℕ} {xs : List A} {t rest : List ℕ} → Spaced (λ a. AtMost k (Commas X) a xs) t rest → Spaced (λ a. Commas X a xs) t rest
      loose y = record { bytes = y.bytes; white = y.white; derives = without y.derives; is_white = y.is_white; split = y.split }

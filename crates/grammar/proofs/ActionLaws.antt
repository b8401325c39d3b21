-- Actions are read exactly as the grammar derives them.
use Rattle.std.specs.Prelude.{Some}
use Prim.Native.Nat.{ℕ, zero, suc, ◌+◌, ◌<◌, ◌≤◌}
use mathlib.Core.Path.{◌≡◌, refl, sym, ap, ◌∙◌}
use mathlib.Core.Bool.{true, false, ◌||◌}
use mathlib.Core.List.{List, [], ◌∷◌, ◌++◌, append_assoc}
use lib.ListN.{length, drop, length-append}
use lib.Dec.{eqb}
use native.Mathlib.Omega.{arith}
use Rattle.base.specs.Pick.{pick}
use Rattle.base.specs.Lists.{is_at, every, has, same}
use Rattle.base.specs.Bytes.{text}
use Rattle.megaco.specs.Bytes.{comma, left_brace, right_brace, dash, dollar, star, is_letter, is_digit, is_word, is_white, in_class, capital, capitals}
use Rattle.megaco.specs.White.{goes_on}
use Rattle.megaco.specs.Keywords.{forms_of, spelt, spells}
use Rattle.megaco.specs.Tokens.{sign_at, number_at}
use Rattle.megaco.specs.Tree.{Command, Property, Action, action}
use Rattle.megaco.specs.Reading.{got, list_r, unlimited, key_at, is_property, command_r, context_r, word_here, property_r, Body, body, with_property, property_then, body_r, action_of, action_r}
use Rattle.protocol.specs.Types.{CtxToken, PriorityToken, EmergencyToken, TopologyToken, Context, Null, Numbered, Choose, All}
use Rattle.grammar.specs.Characters.{Keyword, no_more}
use Rattle.grammar.specs.Grammar.{LWSP, no_lwsp, around, EQUAL, COMMA, single, joined, at_most, uint, name, no_prefix, with_prefix, command_request, amm_request, command_request_list, context_property, context_properties, ContextID, context_number, context_all, context_null, context_choose, action_body, properties, properties_commands, commands, action_request, in_context}
use Rattle.grammar.proofs.Classes.{test_not, digit_tests}
use Rattle.grammar.proofs.Places.{regroup3, regroup6, regroup_request, Any, Stands, Gets, gets_here, gets_skip, gets_bind, gets_number, behind, part_fits, is_at_head, is_at_cons, whether, given, fault_got, got_same, skip_got, bind_got, number_got}
use Rattle.grammar.proofs.WhiteLaws.{Solid, white_append, white_sound}
use Rattle.grammar.proofs.RowLaws.{Stops, After, after_sign, sign_complete, sign_sound, number_complete, number_sound}
use Rattle.grammar.proofs.FollowLaws.{Follow, closing, follow_not, signs_solid, signs_ends, closing_signs, brace_closing, white_ends, around_ends, ends_word, ends_digit}
use Rattle.grammar.proofs.WordLaws.{capital_letter, context_name}
use Rattle.grammar.proofs.ListLaws.{Spaced, gets_spaced, spaced_got, key_complete, key_sound, Complete, Sound, list_complete, list_sound}
use Rattle.grammar.proofs.ItemLaws.{name_solid}
use Rattle.grammar.proofs.CommandLaws.{no_property, command_complete, command_sound}
use Rattle.grammar.proofs.PropertyLaws.{word_here_lem, uint_solid, property_complete, property_word, property_sound}

-- ---- what stands in an action's braces, from its start on

data Listed : List ℕ → List Property → List Command → Type 0 where
  last_property : {a : List ℕ} {p : Property} → context_property a p → Listed a (p ∷ []) []
  next_property : {a b c : List ℕ} {p : Property} {ps : List Property} {cs : List Command} → context_property a p → COMMA b → Listed c ps cs
      → Listed (a ++ b ++ c) (p ∷ ps) cs
  only_commands : {a : List ℕ} {cs : List Command} → command_request_list a cs → Listed a [] cs

listed_properties : {a : List ℕ} {ps : List Property} → context_properties a ps → Listed a ps []
listed_properties (single x) = last_property x
listed_properties (joined x c xs) = next_property x c (listed_properties xs)

regrouped : (a b c d e : List ℕ) → a ++ b ++ c ++ d ++ e ≡ a ++ b ++ (c ++ d ++ e)
regrouped a b c d e = simp append_assoc

listed_both : {a b c : List ℕ} {ps : List Property} {cs : List Command} → context_properties a ps → COMMA b → command_request_list c cs
    → Listed (a ++ b ++ c) ps cs
listed_both (single x) k ys = next_property x k (only_commands ys)
listed_both {b} {c} (joined {a} {b = d} {c = e} x i xs) k ys = rw (regrouped a d e b c) (next_property x i (listed_both xs k ys))

listed : {a : List ℕ} {ps : List Property} {cs : List Command} → action_body a ps cs → Listed a ps cs
listed (properties xs) = listed_properties xs
listed (properties_commands xs k ys) = listed_both xs k ys
listed (commands ys) = only_commands ys

unlisted_next : {a b c : List ℕ} {p : Property} {ps : List Property} {cs : List Command} → context_property a p → COMMA b → action_body c ps cs
    → action_body (a ++ b ++ c) (p ∷ ps) cs
unlisted_next x k (properties xs) = properties (joined x k xs)
unlisted_next {a} {b} x k (properties_commands {a = d} {b = e} {c = f} xs l ys) =
    rw (← (regrouped a b d e f)) (properties_commands (joined x k xs) l ys)
unlisted_next x k (commands ys) = properties_commands (single x) k ys

unlisted : {a : List ℕ} {ps : List Property} {cs : List Command} → Listed a ps cs → action_body a ps cs
unlisted (last_property x) = properties (single x)
unlisted (next_property x k ys) = unlisted_next x k (unlisted ys)
unlisted (only_commands ys) = commands ys

-- each property takes its comma's room, so there is room for all in the message
steps : {a : List ℕ} {ps : List Property} {cs : List Command} → Listed a ps cs → ℕ
steps (last_property x) = 1
steps (next_property x k ys) = suc (steps ys)
steps (only_commands ys) = 1

steps_fit : {a : List ℕ} {ps : List Property} {cs : List Command} (y : Listed a ps cs) → steps y ≤ length a + 1
unfolding steps
steps_fit (last_property x) = omega arith
steps_fit (next_property {a} {c} x (around {a = u} {b = o} i j) ys) =
    rw (length-append (a ++ (u ++ comma ∷ o)) c, length-append a (u ++ comma ∷ o), length-append u (comma ∷ o)) (omega (arith, steps_fit ys))
steps_fit (only_commands ys) = omega arith

-- ---- a command does not begin with a property's word

prefix_word : (s t : List ℕ) (at b letter : ℕ) → is_letter letter ≡ true
    → spelt (forms_of PriorityToken) (letter ∷ []) || spelt (forms_of EmergencyToken) (letter ∷ []) || spelt (forms_of TopologyToken) (letter ∷ []) ≡ false → capital b ≡ letter
    → drop at s ≡ b ∷ dash ∷ t → is_property (word_here s at) ≡ false
unfolding in_class is_word is_letter is_digit is_property spells capitals
prefix_word s t at b letter l k e h = rw (word_here_lem s (dash ∷ t) at (name (capital_letter b (rw e l)) no_more (omega arith)) refl h, e) k

command_word : (s t : List ℕ) {a : List ℕ} {x : Command} (at : ℕ) → command_request a x → drop at s ≡ a ++ t → is_property (word_here s at) ≡ false
unfolding has pick forms_of spelt same is_letter
command_word s t at (amm_request {a} {b} {c} {d} {e} {f} (with_prefix {b = g} m) i n np ne nt j r z) h =
    prefix_word s _ at g 0x4f refl refl m (h ∙ regroup6 a b c d e f t)
command_word s t at (amm_request {a} {b} {c} {d} {e} {f} no_prefix (with_prefix {b = g} m) n np ne nt j r z) h =
    prefix_word s _ at g 0x57 refl refl m (h ∙ regroup6 a b c d e f t)
command_word s t at (amm_request {a} {b} {c} {d} {e} {f} no_prefix no_prefix n np ne nt j r z) h =
    rw (word_here_lem s _ at n (ends_word (around_ends (e ++ (f ++ t)) refl j)) (h ∙ regroup6 a b c d e f t)) (no_property c np ne nt)

-- ---- the body of an action: complete

module _ (s : List ℕ) where
  listed_solid : {a : List ℕ} {ps : List Property} {cs : List Command} (t : List ℕ) → Listed a ps cs → Solid (a ++ t)
  listed_solid t (last_property {a} {p} x) = (property_complete s).solid a t p x
  listed_solid t (next_property {a} {b} {c} {p} x k ys) = rw (regroup3 a b c t) ((property_complete s).solid a (b ++ (c ++ t)) p x)
  listed_solid t (only_commands {a} {cs} ys) = (list_complete command_request s (command_r s) (command_complete s) 64).solid a t cs ys

  commands_word : {a : List ℕ} {cs : List Command} (t : List ℕ) (at : ℕ) → command_request_list a cs → drop at s ≡ a ++ t
      → is_property (word_here s at) ≡ false
  commands_word t at (at_most (single x) l) h = command_word s t at x h
  commands_word t at (at_most (joined {a} {b} {c} x k ys) l) h = command_word s _ at x (h ∙ regroup3 a b c t)

  body_reads : (k : ℕ) {a : List ℕ} {ps : List Property} {cs : List Command} (y : Listed a ps cs) → steps y ≤ k → (w rest : List ℕ) (at : ℕ) → LWSP w
      → Follow (text "}") rest
      → drop at s ≡ a ++ (w ++ rest) → Gets s (body_r k s at) (body ps cs) rest
  unfolding body_r property_then with_property steps every has pick
  body_reads zero (last_property x) l w rest at v f h = absurd (omega arith)
  body_reads zero (next_property x k ys) l w rest at v f h = absurd (omega arith)
  body_reads zero (only_commands ys) l w rest at v f h = absurd (omega arith)
  body_reads (suc k) (last_property {a} {p} x) l w rest at v f h =
      rw (property_word s (w ++ rest) at x (white_ends v (signs_ends (closing_signs (brace_closing f)))) h) (
      gets_bind s p (property_r s at) _ ((property_complete s).reads a w rest p at x v (brace_closing f) h) (λ q m.
      rw (is_at_head s rest q comma m, follow_not (λ b. eqb b comma) refl f) (gets_here s (body (p ∷ []) []) q rest m)))
  body_reads (suc k) (next_property {a} {c} {p} {ps} {cs} x (around {a = u} {b = o} i j) ys) l w rest at v f h =
      let t = c ++ (w ++ rest) in
      let g : drop at s ≡ a ++ (u ++ (comma ∷ o ++ t)) =
      h ∙ regroup3 a (u ++ comma ∷ o) c (w ++ rest) ∙ ap (λ z. a ++ z) (append_assoc u (comma ∷ o) t) in
      rw (property_word s _ at x (white_ends i (record { first = refl })) g) (
      gets_bind s p (property_r s at) _ ((property_complete s).reads a u (comma ∷ o ++ t) p at x i (record { first = refl }) g) (λ q m.
      rw (is_at_head s (comma ∷ o ++ t) q comma m) (
      gets_skip s (sign_at comma s q) _ (sign_complete s q comma t j (listed_solid (w ++ rest) ys) m) (λ q m.
      gets_bind s (body ps cs) (body_r k s q) _ (body_reads k ys (omega arith) w rest q v f m) (λ q m. gets_here s (body (p ∷ ps) cs) q rest m)))))
  body_reads (suc k) (only_commands {a} {cs} ys) l w rest at v f h =
      rw (commands_word (w ++ rest) at ys h) (
      gets_bind s cs (list_r (command_r s) s 64 at) _
      ((list_complete command_request s (command_r s) (command_complete s) 64).reads a w rest cs at ys v f h)
      (λ q m. gets_here s (body [] cs) q rest m))

-- ---- and sound

data BodyOf : List ℕ → Body → Type 0 where
  body_of : {a : List ℕ} {ps : List Property} {cs : List Command} → Listed a ps cs → BodyOf a (body ps cs)

next_body : {a u o c : List ℕ} {x : Property} {b d : Body} → context_property a x → LWSP u → After comma o → BodyOf c b → with_property x b ≡ d
    → BodyOf (a ++ (u ++ o) ++ c) d
unfolding with_property
next_body x i (after_sign j) (body_of y) z = rw (← z) (body_of (next_property x (around i j) y))

module _ (s : List ℕ) where
  body_finds : (k : ℕ) (b : Body) (at e : ℕ) → body_r k s at ≡ got b e → Spaced (λ a. BodyOf a b) (drop at s) (drop e s)
  unfolding body_r property_then pick
  body_finds zero b at e h = absurd (fault_got b e h)
  body_finds (suc k) b at e h = whether (is_property (word_here s at))
      (λ t. bind_got b e (property_r s at) _ (rw t at h) (λ x p m l. given ((property_sound s).finds x at p m) (λ y. whether (is_at s p comma)
      (λ i. skip_got b e (sign_at comma s p) _ (rw i at l) (λ q n l. bind_got b e (body_r k s q) _ l (λ d f o l. given (got_same b e l) (λ z.
      given (sign_sound s p comma q (omega arith) n) (λ g. given (body_finds k d q e (o ∙ ap (got d) z.1)) (λ r. record {
        bytes = y.bytes ++ (y.white ++ g.bytes) ++ r.bytes;
        white = r.white;
        is_white = r.is_white;
        derives = next_body y.derives y.is_white g.derives r.derives z.0;
        split = y.split ∙ rw (g.split, r.split) (simp append_assoc);
      }))))))
      (λ i. given (got_same b e (rw i at l)) (λ z. record {
        bytes = y.bytes;
        white = y.white;
        is_white = y.is_white;
        derives = rw (← z.0) (body_of (last_property y.derives));
        split = rw (← z.1) y.split;
      })))))
      (λ t. bind_got b e (list_r (command_r s) s 64 at) _ (rw t at h)
      (λ cs p m l. given (got_same b e l) (λ z. given ((list_sound command_request s (command_r s) (command_sound s) 64).finds cs at p m)
      (λ y. record {
        bytes = y.bytes;
        white = y.white;
        is_white = y.is_white;
        derives = rw (← z.0) (body_of (only_commands y.derives));
        split = rw (← z.1) y.split;
      }))))

-- ---- the context

digit_no : (b : ℕ) → is_digit b ≡ true → (eqb b dash ≡ false) × (eqb b dollar ≡ false) × (eqb b star ≡ false)
unfolding is_digit
digit_no b h = (test_not is_digit b dash refl h, test_not is_digit b dollar refl h, test_not is_digit b star refl h)

module _ (s : List ℕ) where
  context_gets : (t : List ℕ) {a : List ℕ} {x : Context} (at : ℕ) → ContextID a x → Stops is_digit t → drop at s ≡ a ++ t → Gets s (context_r s at) x t
  unfolding context_r pick
  context_gets t at (context_number {n} (uint {b} {bs} d ds m l)) k h = given (digit_no b (digit_tests.passes b d)) (λ q.
      rw (is_at_head s _ at dash h, is_at_head s _ at dollar h, is_at_head s _ at star h, q.0, q.1, q.2)
      (gets_number s n _ Numbered (number_complete s t at 10 4294967295 (uint d ds m l) k h)))
  context_gets t at context_all k h =
      rw (is_at_head s _ at dash h, is_at_head s _ at dollar h, is_at_head s _ at star h) (gets_here s All (at + 1) t (behind s (star ∷ []) t at h))
  context_gets t at context_null k h = rw (is_at_head s _ at dash h) (gets_here s Null (at + 1) t (behind s (dash ∷ []) t at h))
  context_gets t at context_choose k h =
      rw (is_at_head s _ at dash h, is_at_head s _ at dollar h) (gets_here s Choose (at + 1) t (behind s (dollar ∷ []) t at h))

  context_solid : {a : List ℕ} {x : Context} (t : List ℕ) → ContextID a x → Solid (a ++ t)
  unfolding goes_on is_white
  context_solid t (context_number d) = uint_solid t d
  context_solid t context_all = refl
  context_solid t context_null = refl
  context_solid t context_choose = refl

  context_sound : (x : Context) (at e : ℕ) → context_r s at ≡ got x e → Stands (λ a. ContextID a x) Any (drop at s) (drop e s)
  unfolding context_r pick
  context_sound x at e h = whether (is_at s at dash) (λ t. one dash Null (omega arith) context_null t (rw t at h)) (λ t.
      given (rw t at h) (λ h. whether (is_at s at dollar) (λ t. one dollar Choose (omega arith) context_choose t (rw t at h)) (λ t.
      given (rw t at h) (λ h. whether (is_at s at star) (λ t. one star All (omega arith) context_all t (rw t at h)) (λ t.
      number_got x e (number_at s at 10 4294967295) Numbered (rw t at h) (λ v m z. given (number_sound s at 10 4294967295 v e m) (λ y. record {
        bytes = y.bytes;
        derives = rw (← z) (context_number y.derives);
        split = y.split;
        stops = tt;
      })))))))
    where
      one : (b : ℕ) (y : Context) → 0 < b → ContextID (b ∷ []) y → is_at s at b ≡ true → got y (at + 1) ≡ got x e
          → Stands (λ a. ContextID a x) Any (drop at s) (drop e s)
      one b y z d t l =
          given (got_same x e l) (λ q. record { bytes = b ∷ []; derives = rw q.0 at d; split = rw (← q.1) (is_at_cons s at b z t); stops = tt })

  -- ---- actions

  action_reads : (w rest : List ℕ) {a : List ℕ} {x : Action} (at : ℕ) → action_request a x → LWSP w → Follow closing rest
      → drop at s ≡ a ++ (w ++ rest) → Gets s (action_r s at) x rest
  unfolding action_r action_of unlimited has pick goes_on is_white
  action_reads w rest at (in_context {a} {b} {c} {e} {x} {ps} {cs} k q d (around {a = u₁} {b = v₁} i₁ j₁) y (around {a = u₂} {b = v₂} i₂ j₂)) v f h =
      let t₃ = right_brace ∷ v₂ ++ (w ++ rest) in
      let t₂ = e ++ (u₂ ++ t₃) in
      let t₁ = left_brace ∷ v₁ ++ t₂ in
      let g : drop at s ≡ a ++ (b ++ (c ++ (u₁ ++ t₁))) = h ∙ regroup_request a b c u₁ (left_brace ∷ v₁) e u₂ (right_brace ∷ v₂) (w ++ rest) in
      gets_skip s (key_at CtxToken s at) _ (key_complete CtxToken s (c ++ (u₁ ++ t₁)) at k (context_name k) q (context_solid (u₁ ++ t₁) d) g) (λ p m.
      gets_bind s x _ _ (gets_spaced s {w = u₁} _ (context_gets (u₁ ++ t₁) p d (ends_digit (white_ends i₁ (record { first = refl }))) m) i₁ refl)
      (λ p m.
      gets_skip s (sign_at left_brace s p) _ (sign_complete s p left_brace t₂ j₁ (listed_solid s (u₂ ++ t₃) (listed y)) m) (λ p m.
      gets_bind s (body ps cs) (body_r (length s + 1) s p) _
      (body_reads s (length s + 1) (listed y) (omega (arith, steps_fit (listed y), part_fits s e (u₂ ++ t₃) p m)) u₂ t₃ p i₂
      (record { first = refl }) m) (λ p m.
      gets_skip s (sign_at right_brace s p) _ (sign_complete s p right_brace rest (white_append j₂ v) (signs_solid (closing_signs f))
      (m ∙ sym (append_assoc (right_brace ∷ v₂) w rest))) (λ p m.
      gets_here s (action x ps cs) p rest m)))))

  action_solid : {a : List ℕ} {x : Action} (t : List ℕ) → action_request a x → Solid (a ++ t)
  action_solid t (in_context {a} {b} {c} {d} {e} {f} k q i l y r) = rw (regroup6 a b c d e f t) (name_solid _ (context_name k))

  pub action_complete : Complete action_request closing s (action_r s)
  action_complete = record { solid = λ a t x y. action_solid t y; reads = λ a w rest x at y v f h. action_reads w rest at y v f h }

  action_of_lem : {a b c u d e v f : List ℕ} {x : Context} {y : Body} {z : Action} → Keyword CtxToken a → EQUAL b → ContextID c x → LWSP u
      → After left_brace d → BodyOf e y → LWSP v → After right_brace f
      → action_of x y ≡ z → action_request (a ++ b ++ c ++ (u ++ d) ++ e ++ (v ++ f)) z
  unfolding action_of
  action_of_lem k q i u (after_sign d) (body_of y) v (after_sign f) z = rw (← z) (in_context k q i (around u d) (unlisted y) (around v f))

  pub action_sound : Sound action_request s (action_r s)
  unfolding action_r
  action_sound = record {
    finds = λ x at e h.
        skip_got x e (key_at CtxToken s at) _ h (λ p m l. bind_got x e _ _ l
        (λ c q n l. skip_got x e (sign_at left_brace s q) _ l (λ r o l. bind_got x e (body_r (unlimited s) s r) _ l (λ b t g l.
        skip_got x e (sign_at right_brace s t) _ l (λ f k l. given (got_same x e l) (λ z.
        given (key_sound CtxToken s at p m) (λ y₁.
        spaced_got s c q _ n (λ n w d. given (context_sound c p n w) (λ y₂. given (white_sound s n q d) (λ y₃.
        given (sign_sound s q left_brace r (omega arith) o) (λ y₄.
        given (body_finds s (unlimited s) b r t g) (λ y₅.
        given (sign_sound s t right_brace e (omega arith) (k ∙ ap Some z.1)) (λ y₆. record {
          bytes = y₁.0 ++ y₁.1 ++ y₂.bytes ++ (y₃.bytes ++ y₄.bytes) ++ y₅.bytes ++ (y₅.white ++ y₆.bytes);
          white = [];
          derives = action_of_lem y₁.2 y₁.3 y₂.derives y₃.derives y₄.derives y₅.derives y₅.is_white y₆.derives z.0;
          is_white = no_lwsp;
          split = y₁.4 ∙ rw (y₂.split, y₃.split, y₄.split, y₅.split, y₆.split) (simp append_assoc);
        })))))))))))));
  }

-- Acknowledgements are read exactly as the grammar derives them.
use Rattle.megaco.proofs.NumberParts.{same_value}
use Rattle.std.specs.Prelude.{Some, None}
use Prim.Native.Nat.{ℕ, ◌+◌, ◌≤◌}
use mathlib.Core.Path.{◌≡◌, refl, sym, ap, ◌∙◌}
use mathlib.Core.Bool.{Bool, true, false}
use mathlib.Core.List.{List, [], ◌∷◌, ◌++◌, append_assoc}
use lib.ListN.{drop}
use lib.Dec.{eqb, leb}
use borrow.Author.Tests.{leb-true, le-leb}
use native.Mathlib.Omega.{arith}
use Rattle.base.specs.Pick.{pick}
use Rattle.base.specs.Lists.{is_at, part, has, every}
use Rattle.base.specs.Bytes.{text}
use Rattle.megaco.specs.Bytes.{dash, left_brace, right_brace, is_white, is_digit}
use Rattle.megaco.specs.White.{goes_on, after, white_at}
use Rattle.megaco.specs.Keywords.{spells}
use Rattle.megaco.specs.Tokens.{sign_at, word_at, number_at, at_least}
use Rattle.megaco.specs.Reading.{got, read_number, list_r, unlimited, ack, identifier_from, range_r, ack_r, acks_r}
use Rattle.protocol.specs.Types.{ResponseAckToken, Ack, Number, number}
use Rattle.grammar.specs.Characters.{Keyword}
use Rattle.grammar.specs.Grammar.{LWSP, around, Commas, UINT32, TransactionID, identifier, transaction_ack, one_id, from_to, transaction_response_ack, with_acks}
use Rattle.grammar.proofs.Places.{Stands, Gets, Counts, finds, finds_after, gets_here, gets_skip, gets_bind, gets_number, behind, is_at_head, is_at_cons, whether, given, got_same, skip_got, bind_got, number_got, after_next}
use Rattle.grammar.proofs.WhiteLaws.{Solid, white_complete, white_sound}
use Rattle.grammar.proofs.RowLaws.{Stops, After, after_sign, sign_complete, sign_sound, number_complete, number_sound}
use Rattle.grammar.proofs.FollowLaws.{Follow, ends, closing, follow_not, signs_solid, signs_ends, closing_signs, white_ends, ends_word, ends_digit}
use Rattle.grammar.proofs.WordLaws.{word_exact, word_sound, spells_keyword, ack_name}
use Rattle.grammar.proofs.ListLaws.{Spaced, gets_spaced, spaced_got, Complete, Sound, list_complete_all, list_sound_all}
use Rattle.grammar.proofs.ItemLaws.{name_solid}
use Rattle.grammar.proofs.PropertyLaws.{uint_solid}

-- ---- an identifier from a lowest one on

positive : {a : List ℕ} {n : ℕ} → TransactionID a n → 1 ≤ n
positive (identifier x l) = l

dash_no_digit : is_digit dash ≡ false
unfolding is_digit
dash_no_digit = refl

identifier_counts : (s rest : List ℕ) {a : List ℕ} {v : ℕ} (at low : ℕ) → TransactionID a v → low ≤ v → Stops is_digit rest → drop at s ≡ a ++ rest
    → Counts s (identifier_from low s at) v rest
unfolding identifier_from at_least pick
identifier_counts s rest {v = v} at low (identifier n l) h k e = given (number_complete s rest at 10 4294967295 n k e) (λ y.
    record { end = y.end; is = rw (y.is, le-leb low v h); leaves = y.leaves })

at_least_back : (low : ℕ) (n : Number) (v e : ℕ) → at_least low n ≡ number v e → (n ≡ number v e) × (low ≤ v)
unfolding at_least pick
at_least_back low (Some (w, p)) v e h = by (leb low w) refl h
  where
    by : (t : Bool) → leb low w ≡ t → pick t (number w p) None ≡ number v e → (number w p ≡ number v e) × (low ≤ v)
    by true q f = let z : w ≡ v = same_value f in (f, omega (arith, leb-true low w q, z))
    by false q f = let z : ◌≡◌ {A = ℕ} 0 1 = cc in absurd (omega arith)
at_least_back low None v e h = let z : ◌≡◌ {A = ℕ} 0 1 = cc in absurd (omega arith)

identifier_sound : (s : List ℕ) (at low v e : ℕ) → identifier_from low s at ≡ number v e → Stands (λ a. UINT32 a v) (Stops is_digit) (drop at s) (drop e s) × (low ≤ v)
unfolding identifier_from
identifier_sound s at low v e h =
    let p = at_least_back low (number_at s at 10 4294967295) v e h in
    (number_sound s at 10 4294967295 v e p.0, p.1)

regroup_acks : (a u o c v p r : List ℕ) → (a ++ (u ++ o) ++ c ++ (v ++ p)) ++ r ≡ a ++ (u ++ (o ++ (c ++ (v ++ (p ++ r)))))
regroup_acks a u o c v p r = simp append_assoc

module _ (s : List ℕ) where
  -- ---- an identifier or a range

  ack_reads : (w rest : List ℕ) {a : List ℕ} {x : Ack} (at : ℕ) → transaction_ack a x → LWSP w → Follow closing rest → drop at s ≡ a ++ (w ++ rest)
      → Gets s (ack_r s at) x rest
  unfolding ack_r range_r pick has every
  ack_reads w rest at (one_id {a} {n} i) v f h =
      let k : Follow ends (w ++ rest) = white_ends v (signs_ends (closing_signs f)) in
      gets_spaced s {w = w} _ (gets_bind s n (read_number (identifier_from 1 s at) (λ y. y)) _
      (gets_number s n (identifier_from 1 s at) (λ y. y) (identifier_counts s (w ++ rest) at 1 i (positive i) (ends_digit k) h)) (λ p m.
      rw (is_at_head s (w ++ rest) p dash m, follow_not (λ b. eqb b dash) refl k) (gets_here s (ack n n) p (w ++ rest) m))) v
      (signs_solid (closing_signs f))
  ack_reads w rest at (from_to {a} {b} {n} {m} i y l) v f h =
      let k : Follow ends (w ++ rest) = white_ends v (signs_ends (closing_signs f)) in
      let t : List ℕ = dash ∷ b ++ (w ++ rest) in
      let g : drop at s ≡ a ++ t = h ∙ append_assoc a (dash ∷ b) (w ++ rest) in
      gets_spaced s {w = w} _ (gets_bind s n (read_number (identifier_from 1 s at) (λ y. y)) _
      (gets_number s n (identifier_from 1 s at) (λ y. y) (identifier_counts s t at 1 i (positive i) dash_no_digit g)) (λ p o.
      rw (is_at_head s t p dash o) (gets_number s m (identifier_from n s (p + 1)) (ack n)
      (identifier_counts s (w ++ rest) (p + 1) n y l (ends_digit k) (behind s (dash ∷ []) (b ++ (w ++ rest)) p o))))) v
      (signs_solid (closing_signs f))

  ack_solid : {a : List ℕ} {x : Ack} (t : List ℕ) → transaction_ack a x → Solid (a ++ t)
  ack_solid t (one_id (identifier n l)) = uint_solid t n
  ack_solid t (from_to {a} {b} (identifier n l) y m) = rw (append_assoc a (dash ∷ b) t) (uint_solid _ n)

  ack_complete : Complete transaction_ack closing s (ack_r s)
  ack_complete = record { solid = λ a t x y. ack_solid t y; reads = λ a w rest x at y v f h. ack_reads w rest at y v f h }

  range_got : (x : Ack) (at e : ℕ) → range_r s at ≡ got x e → (a : List ℕ) × transaction_ack a x × (drop at s ≡ a ++ drop e s)
  unfolding range_r pick
  range_got x at e h = bind_got x e (read_number (identifier_from 1 s at) (λ y. y)) _ h (λ v p m l.
      number_got v p (identifier_from 1 s at) (λ y. y) m (λ u n o. given (rw o at (identifier_sound s at 1 u p n)) (λ y. whether (is_at s p dash)
      (λ t. number_got x e (identifier_from v s (p + 1)) (ack v) (rw t at l) (λ z q r. given (identifier_sound s (p + 1) v z e q) (λ i. (
        y.0.bytes ++ dash ∷ i.0.bytes,
        rw (← r) (from_to (identifier y.0.derives y.1) (identifier i.0.derives (omega (arith, y.1, i.1))) i.1),
        y.0.split ∙ rw (is_at_cons s p dash (omega arith) t, i.0.split) (sym (append_assoc y.0.bytes (dash ∷ i.0.bytes) (drop e s))),
      ))))
      (λ t. given (got_same x e (rw t at l)) (λ z. (
        y.0.bytes,
        rw (← z.0) (one_id (identifier y.0.derives y.1)),
        y.0.split ∙ rw z.1,
      ))))))

  ack_sound : Sound transaction_ack s (ack_r s)
  unfolding ack_r
  ack_sound = record {
    finds = λ x at e h. spaced_got s x e (range_r s at) h (λ p g i. given (range_got x at p g) (λ y. given (white_sound s p e i) (λ z. record {
      bytes = y.0;
      white = z.bytes;
      derives = y.1;
      is_white = z.derives;
      split = y.2 ∙ rw z.split;
    })));
  }

  -- ---- identifiers and ranges in braces behind the keyword

  pub acks_reads : (rest : List ℕ) {a : List ℕ} {ks : List Ack} (at : ℕ) → transaction_response_ack a ks → Solid rest → drop at s ≡ a ++ rest → Gets s (acks_r s at) ks rest
  unfolding acks_r has pick goes_on is_white
  acks_reads rest at (with_acks {a} {c} {ks} k (around {a = u₁} {b = v₁} i₁ j₁) y (around {a = u₂} {b = v₂} i₂ j₂)) z h =
      let t₃ = right_brace ∷ v₂ ++ rest in
      let t₂ = c ++ (u₂ ++ t₃) in
      let t₁ = left_brace ∷ v₁ ++ t₂ in
      let g : drop at s ≡ a ++ (u₁ ++ t₁) = h ∙ regroup_acks a u₁ (left_brace ∷ v₁) c u₂ (right_brace ∷ v₂) rest in
      let all : Complete (Commas transaction_ack) (text "}") s (list_r (ack_r s) s (unlimited s)) = list_complete_all transaction_ack s (ack_r s) ack_complete in
      gets_skip s (after (word_at s at) (white_at s)) _ (finds_after s _ _
      (finds s a (u₁ ++ t₁) at _ g (word_exact s (u₁ ++ t₁) at (ack_name k) (ends_word (white_ends i₁ (record { first = refl }))) g))
      (λ p m. white_complete s t₁ p i₁ refl m)) (λ p m.
      gets_skip s (sign_at left_brace s p) _ (sign_complete s p left_brace t₂ j₁ (all.solid c (u₂ ++ t₃) ks y) m) (λ p m.
      gets_bind s ks (list_r (ack_r s) s (unlimited s) p) _ (all.reads c u₂ t₃ ks p y i₂ (record { first = refl }) m) (λ p m.
      gets_skip s (sign_at right_brace s p) _ (sign_complete s p right_brace rest j₂ z m) (λ p m.
      gets_here s ks p rest m))))

  acks_of_lem : {a u o c v p : List ℕ} {ks : List Ack} → Keyword ResponseAckToken a → LWSP u → After left_brace o → Commas transaction_ack c ks → LWSP v → After right_brace p
      → transaction_response_ack (a ++ (u ++ o) ++ c ++ (v ++ p)) ks
  acks_of_lem k i (after_sign j) y m (after_sign n) = with_acks k (around i j) y (around m n)

  pub acks_got : (ks : List Ack) (at e : ℕ) → ((p : ℕ) → word_at s at ≡ Some p → spells ResponseAckToken (part s at p) ≡ true) → acks_r s at ≡ got ks e
      → Stands (λ a. transaction_response_ack a ks) Solid (drop at s) (drop e s)
  unfolding acks_r
  acks_got ks at e k h =
      skip_got ks e (after (word_at s at) (white_at s)) _ h (λ p m l. after_next _ _ p m (λ n o d.
      skip_got ks e (sign_at left_brace s p) _ l (λ q g l. bind_got ks e (list_r (ack_r s) s (unlimited s) q) _ l (λ xs r b l.
      skip_got ks e (sign_at right_brace s r) _ l (λ f j l. given (got_same ks e l) (λ z.
      given (word_sound s at n o) (λ y₁.
      given (white_sound s n p d) (λ y₂.
      given (sign_sound s p left_brace q (omega arith) g) (λ y₃.
      given ((list_sound_all transaction_ack s (ack_r s) ack_sound).finds xs q r b) (λ y₄.
      given (sign_sound s r right_brace e (omega arith) (j ∙ ap Some z.1)) (λ y₅. record {
        bytes = y₁.bytes ++ (y₂.bytes ++ y₃.bytes) ++ y₄.bytes ++ (y₄.white ++ y₅.bytes);
        derives =
            rw (← z.0) (acks_of_lem (spells_keyword ResponseAckToken y₁.bytes (rw y₁.derives.1 at (k n o))) y₂.derives y₃.derives
            y₄.derives y₄.is_white y₅.derives);
        split = y₁.split ∙ rw (y₂.split, y₃.split, y₄.split, y₅.split) (simp append_assoc);
        stops = y₅.stops;
      })))))))))))

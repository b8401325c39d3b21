-- What a row needs of a sound table: its words by their places, the sides, the map.
use Prim.Native.Nat.{ℕ, zero, suc, ◌+◌, ◌-◌, ◌*◌, ◌/◌, ◌%◌, ◌^◌, ◌<◌, ◌≤◌}
use mathlib.Core.Path.{◌≡◌, refl, sym, ap, ◌∙◌}
use mathlib.Core.Bool.{Bool, true, false, ◌&&◌}
use mathlib.Core.List.{List, [], ◌∷◌, ◌++◌}
use native.Mathlib.Nat.{add-zero}
use native.Mathlib.Omega.{arith}
use lib.ListN.{length, get_or, take, drop, get_or-eq_default}
use lib.Seq.{take_at, take-take, drop-drop, drop-append_seam}
use lib.Dec.{ltb, leb, eqb}
use borrow.Author.Tests.{ltb-true, ltb-false, eqb-true}
use Rattle.base.specs.Pick.{pick}
use Rattle.base.specs.Lists.{every, same}
use Rattle.base.proofs.TestLaws.{and_both, same_is}
use Rattle.megaco.specs.Map.{digits, of_digits, marks}
use Rattle.megaco.specs.Table.{line_terminations, terminations, contexts, start_of, map_start, words, fitted, prop, rec, flow, speech, cell, address, low_flow, high_flow, speech_word, get, context_words, property_words, record_words, map_words, flow_words, speech_words, ephemeral_contexts, ephemeral_properties, places, sized, is_property_word, absent_are_zero, records_are_sound, map_is_sound, flows_are_sound, speech_is_sound, sound}
use Rattle.megaco.proofs.Sizes.{fitted_is}
use Rattle.megaco.proofs.Regions.{context_region}
use Rattle.megaco.proofs.Places.{length_digits, digits_back}
use Rattle.laws.specs.Sound.{SoundSide, silent, sends, Whole}
use Rattle.laws.proofs.Sound.{sound_whole}
use Rattle.groups.specs.Rows.{Below}
use Rattle.row_laws.specs.Items.{Lines}
use Rattle.row_laws.specs.Filling.{items, item_at, map_word, low_map, high_map}
use Rattle.row_laws.specs.Answers.{sound_of}
use Rattle.row_laws.specs.declared.Item.TheVariants.{Side}
use Rattle.row_laws.proofs.ItemLaws.{side_at}
use Rattle.row_laws.proofs.FillLaws.{SideFit, Fit}

-- the four words of Local or Remote
pub record SideSound (f a p y : ℕ) : Type 0 where
  pub flag : f ≤ 1
  pub address : a < 2 ^ 32
  pub port : p ≤ 65535
  pub kind : y ≤ 127
  pub none : f ≡ 0 → (a ≡ 0) × (p ≡ 0) × (y ≡ 0)

side_of : {c f a p y : ℕ} → SoundSide c f a p y → SideSound f a p y
side_of silent = record { flag = omega arith; address = omega arith; port = omega arith; kind = omega arith; none = λ e. (refl, refl, refl) }
side_of (sends h a p y) = record { flag = omega arith; address = a; port = p; kind = y; none = λ e. absurd (omega (arith, e)) }

take_marks : (i : ℕ) (l : List ℕ) → take i (marks l) ≡ marks (take i l)
unfolding marks
take_marks zero l = refl
take_marks (suc i) [] = refl
take_marks (suc i) (x ∷ l) = ap (λ (m : List ℕ). pick (eqb x 0) 0 1 ∷ m) (take_marks i l)

drop_marks : (i : ℕ) (l : List ℕ) → drop i (marks l) ≡ marks (drop i l)
unfolding marks
drop_marks zero l = refl
drop_marks (suc i) [] = refl
drop_marks (suc i) (x ∷ l) = drop_marks i l

map_sound : (t : List ℕ) → sound t ≡ true → same (places t) (marks (ephemeral_contexts t)) ≡ true
unfolding sound map_is_sound
map_sound t e =
    let p : Bool =
    sized t && every (λ w. leb w contexts) (context_words t) && every is_property_word (property_words t) && absent_are_zero (ephemeral_contexts t) (ephemeral_properties t)
    && records_are_sound (context_words t) 1 (record_words t) in
    let f : Bool = flows_are_sound (context_words t) 1 (flow_words t) in
    let a = and_both (p && map_is_sound t && f) (speech_is_sound (ephemeral_contexts t) (speech_words t)) e in
    let b = and_both (p && map_is_sound t) f a.0 in
    let c = and_both p (map_is_sound t) b.0 in
    (and_both (every (λ w. ltb w (2 ^ 32)) (map_words t)) (same (places t) (marks (ephemeral_contexts t))) c.1).1

-- a word of ephemeral j's speech
speech_place : (n j side m : ℕ) → side < 2 → m < 4 → address n (cell (speech (speech_word (line_terminations n + j) side m))) ≡ start_of n 5 + (8 * j + 4 * side + m)
speech_place n j side m h l =
    let k : ℕ = speech_word (line_terminations n + j) side m in
    let a : k / 8 ≡ line_terminations n + j = omega arith in
    let b : k % 8 ≡ 4 * side + m = omega arith in
    omega (arith, a, b)

module _ (n : ℕ) (t : List ℕ) (e : sound_of n t ≡ true) where
  pub long : length t ≡ words n
  unfolding sound_of
  long = eqb-true (length t) (words n) (and_both (eqb (length t) (words n)) (sound t) e).0

  pub is_sound : sound t ≡ true
  unfolding sound_of
  is_sound = (and_both (eqb (length t) (words n)) (sound t) e).1

  fits : fitted t ≡ n
  fits = fitted_is n t long

  whole : Whole t
  whole = sound_whole t is_sound

  pub lines : Lines n
  lines = record { some = omega (arith, fits, whole.some); few = omega (arith, fits, whole.few) }

  -- ---- the words by their places

  pub context_word : (w : ℕ) → w < terminations n → get_or t w 0 ≤ 128
  context_word w h = whole.place w (omega (arith, fits, h))

  pub small_word : (w : ℕ) → terminations n ≤ w → w < map_start n → get_or t w 0 < 128
  small_word w h k = by (ltb w (start_of n 2)) refl
    where
      by : (b : Bool) → ltb w (start_of n 2) ≡ b → get_or t w 0 < 128
      by true f =
          let i : ℕ = w - terminations n in
          let s = whole.word i (omega (arith, fits, ltb-true w (start_of n 2) f, h)) in
          let q : get_or t w 0 ≡ get t (cell (prop i)) = ap (λ (x : ℕ). get_or t x 0) (omega (arith, fits, h)) in
          omega (arith, q, s.mode, s.state)
      by false f =
          let g : start_of n 2 ≤ w = ltb-false w (start_of n 2) f in
          let c : ℕ = w - start_of n 2 + 1 in
          let s = whole.held c (omega arith) (omega (arith, g, k)) in
          let q : get_or t w 0 ≡ get t (cell (rec c)) = ap (λ (x : ℕ). get_or t x 0) (omega (arith, fits, g)) in
          omega (arith, q, s.low)

  map_word_lem : (w : ℕ) → map_start n ≤ w → w < start_of n 4 → get_or t w 0 < 2 ^ 32
  map_word_lem w h k =
      let i : ℕ = w - map_start n in
      let s = whole.narrow i (omega (arith, h, k)) in
      let q : get_or t w 0 ≡ get_or t (map_start (fitted t) + i) 0 = ap (λ (x : ℕ). get_or t x 0) (omega (arith, fits, h)) in
      omega (arith, q, s)

  flow_word : (w : ℕ) → start_of n 4 ≤ w → w < start_of n 5 → get_or t w 0 < 2 ^ 32
  flow_word w h k = by ((w - start_of n 4) % 2) refl
    where
      c : ℕ
      c = (w - start_of n 4) / 2 + 1

      by : (m : ℕ) → (w - start_of n 4) % 2 ≡ m → get_or t w 0 < 2 ^ 32
      by zero f =
          let s = whole.flows ((w - start_of n 4) / 2 + 1) (omega arith) (omega (arith, h, k)) in
          let q : get_or t w 0 ≡ get t (cell (flow (low_flow ((w - start_of n 4) / 2 + 1)))) = ap (λ (x : ℕ). get_or t x 0) (omega (arith, fits, h, f)) in
          omega (arith, q, s.low)
      by (suc zero) f =
          let s = whole.flows ((w - start_of n 4) / 2 + 1) (omega arith) (omega (arith, h, k)) in
          let q : get_or t w 0 ≡ get t (cell (flow (high_flow ((w - start_of n 4) / 2 + 1)))) = ap (λ (x : ℕ). get_or t x 0) (omega (arith, fits, h, f)) in
          omega (arith, q, s.high)
      by (suc (suc m)) f = absurd (omega (arith, f))

  -- side i of 128
  pub side_sound : (k i : ℕ) → k ≡ start_of n 5 + 4 * i → i < 128 → SideSound (get_or t k 0) (get_or t (k + 1) 0) (get_or t (k + 2) 0) (get_or t (k + 3) 0)
  side_sound k i p h =
      let s = whole.speech (line_terminations (fitted t) + i / 2) (i % 2) (omega arith) (omega (arith, h)) (omega arith) in
      let q₀ = word 0 (omega arith) in
      rw (rw add-zero at q₀, word 1 (omega arith), word 2 (omega arith), word 3 (omega arith)) (side_of s)
    where
      word : (m : ℕ) → m < 4 → get_or t (k + m) 0 ≡ get t (cell (speech (speech_word (line_terminations (fitted t) + i / 2) (i % 2) m)))
      word m l = ap (λ (x : ℕ). get_or t x 0) (sym (speech_place (fitted t) (i / 2) (i % 2) m (omega arith) l ∙ omega (arith, fits, p)))

  side_word_lem : (w : ℕ) → start_of n 5 ≤ w → w < words n → get_or t w 0 < 2 ^ 32
  side_word_lem w h l = by ((w - start_of n 5) % 4) refl
    where
      i : ℕ
      i = (w - start_of n 5) / 4

      s : SideSound (get_or t (start_of n 5 + 4 * i) 0) (get_or t (start_of n 5 + 4 * i + 1) 0) (get_or t (start_of n 5 + 4 * i + 2) 0) (get_or t (start_of n 5 + 4 * i + 3) 0)
      s = side_sound (start_of n 5 + 4 * i) i refl (omega (arith, h, l))

      by : (m : ℕ) → (w - start_of n 5) % 4 ≡ m → get_or t w 0 < 2 ^ 32
      by zero f = let q : get_or t w 0 ≡ get_or t (start_of n 5 + 4 * i) 0 = ap (λ (x : ℕ). get_or t x 0) (omega (arith, h, f)) in omega (arith, q, s.flag)
      by (suc zero) f = let q : get_or t w 0 ≡ get_or t (start_of n 5 + 4 * i + 1) 0 = ap (λ (x : ℕ). get_or t x 0) (omega (arith, h, f)) in omega (arith, q, s.address)
      by (suc (suc zero)) f = let q : get_or t w 0 ≡ get_or t (start_of n 5 + 4 * i + 2) 0 = ap (λ (x : ℕ). get_or t x 0) (omega (arith, h, f)) in omega (arith, q, s.port)
      by (suc (suc (suc zero))) f = let q : get_or t w 0 ≡ get_or t (start_of n 5 + 4 * i + 3) 0 = ap (λ (x : ℕ). get_or t x 0) (omega (arith, h, f)) in omega (arith, q, s.kind)
      by (suc (suc (suc (suc m)))) f = absurd (omega (arith, f))

  -- every word is of 32 bits
  word_below : (w : ℕ) → (a b c d g : Bool) → ltb w (terminations n) ≡ a → ltb w (map_start n) ≡ b → ltb w (start_of n 4) ≡ c → ltb w (start_of n 5) ≡ d → ltb w (words n) ≡ g → get_or t w 0 < 2 ^ 32
  word_below w true b c d g p q r s u = omega (arith, context_word w (ltb-true w (terminations n) p))
  word_below w false true c d g p q r s u = omega (arith, small_word w (ltb-false w (terminations n) p) (ltb-true w (map_start n) q))
  word_below w false false true d g p q r s u = map_word_lem w (ltb-false w (map_start n) q) (ltb-true w (start_of n 4) r)
  word_below w false false false true g p q r s u = flow_word w (ltb-false w (start_of n 4) r) (ltb-true w (start_of n 5) s)
  word_below w false false false false true p q r s u = side_word_lem w (ltb-false w (start_of n 5) s) (ltb-true w (words n) u)
  word_below w false false false false false p q r s u =
      let z : get_or t w 0 ≡ 0 = get_or-eq_default t 0 (omega (arith, long, ltb-false w (words n) u)) in omega (arith, z)

  pub sound_below : Below t
  sound_below = record { below = λ w. word_below w _ _ _ _ _ refl refl refl refl refl }

  -- ---- the map

  abbrev halves : ℕ → List ℕ
  halves m = digits 32 (get_or t (map_start m) 0) ++ digits 32 (get_or t (map_start m + 1) 0)

  places_are : halves n ≡ marks (ephemeral_contexts t)
  unfolding places
  places_are = sym (ap halves fits) ∙ same_is (places t) (marks (ephemeral_contexts t)) (map_sound t is_sound)

  first_half : take 32 (ephemeral_contexts t) ≡ take 32 (drop (line_terminations n) t)
  unfolding ephemeral_contexts
  first_half =
      let L : ℕ = line_terminations n in
      let g : take (terminations n - L) (drop L t) ≡ drop (line_terminations (fitted t)) (context_words t) = rw (← fits) ((context_region t).rest (line_terminations (fitted t)) (terminations (fitted t)) (line_terminations (fitted t)) (omega arith) refl (omega arith)) in
      rw (← g) (take-take 32 (terminations n - L) (drop L t) (omega arith))

  second_half : drop 32 (ephemeral_contexts t) ≡ take 32 (drop (line_terminations n + 32) t)
  unfolding ephemeral_contexts
  second_half =
      let g : take (terminations n - (line_terminations n + 32)) (drop (line_terminations n + 32) t) ≡ drop (line_terminations n + 32) (context_words t)
      = rw (← fits) ((context_region t).rest (line_terminations (fitted t) + 32) (terminations (fitted t)) (line_terminations (fitted t) + 32) (omega arith) refl (omega arith)) in
      let m : terminations n - (line_terminations n + 32) ≡ 32 = omega arith in
      rw fits (drop-drop 32 (line_terminations n) (context_words t)) ∙ sym (rw m at g)

  pub low_is : get_or t (map_start n) 0 ≡ low_map n t
  unfolding map_word
  low_is =
      let w : ℕ = get_or t (map_start n) 0 in
      let a : take 32 (digits 32 w ++ digits 32 (get_or t (map_start n + 1) 0)) ≡ digits 32 w = take_at (digits 32 w) (digits 32 (get_or t (map_start n + 1) 0)) 32 (length_digits 32 w) in
      let b : digits 32 w ≡ marks (take 32 (drop (line_terminations n) t)) = sym a ∙ ap (take 32) places_are ∙ take_marks 32 (ephemeral_contexts t) ∙ ap marks first_half in
      digits_back 32 w (map_word_lem (map_start n) (omega arith) (omega arith)) ∙ ap of_digits b

  pub high_is : get_or t (map_start n + 1) 0 ≡ high_map n t
  unfolding map_word
  high_is =
      let w : ℕ = get_or t (map_start n + 1) 0 in
      let l : length (digits 32 (get_or t (map_start n) 0)) ≡ 32 = length_digits 32 (get_or t (map_start n) 0) in
      let a : drop 32 (digits 32 (get_or t (map_start n) 0) ++ digits 32 w) ≡ digits 32 w = rw l at (drop-append_seam (digits 32 (get_or t (map_start n) 0)) (digits 32 w)) in
      let b : digits 32 w ≡ marks (take 32 (drop (line_terminations n + 32) t)) = sym a ∙ ap (drop 32) places_are ∙ drop_marks 32 (ephemeral_contexts t) ∙ ap marks second_half in
      digits_back 32 w (map_word_lem (map_start n + 1) (omega arith) (omega arith)) ∙ ap of_digits b

  -- ---- all of it

  pub sound_fit : Fit n t
  sound_fit = record { long = long; sides = λ j k h f. side j k h f; low = low_is; high = high_is }
    where
      side : (j k : ℕ) → j < items n → item_at n j ≡ Side k → SideFit t k
      side j k h f =
          let a = side_at n lines j k h f in
          let s = side_sound k a.i a.is a.few in
          record { none = s.none; one = λ q. omega (arith, q, s.flag) }

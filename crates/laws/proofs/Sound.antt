-- A sound table (document 01, 'The lent table') as facts by the number of a termination and of a context, and both ways to the test `sound`.
use Prim.Native.Nat.{ℕ, zero, suc, ◌+◌, ◌-◌, ◌*◌, ◌/◌, ◌%◌, ◌^◌, ◌≤◌, ◌<◌, min}
use mathlib.Core.Path.{◌≡◌, refl, sym, ap, ◌∙◌}
use mathlib.Core.Bool.{Bool, true, false, not, ◌&&◌}
use mathlib.Core.List.{List, [], ◌∷◌, ◌++◌}
use lib.ListN.{length, replicate, get_or, length-drop, length-append, get_or-append}
use lib.Seq.{get_or-drop}
use lib.Dec.{ltb, leb, eqb}
use borrow.Author.Tests.{eqb-true, eqb-false, eq-eqb, ne_eqb, ltb-true, lt-ltb, leb-true, le-leb, not-true, not-false}
use native.Mathlib.Nat.{add-zero}
use native.Mathlib.Omega.{arith}
use Rattle.base.specs.Pick.{pick}
use Rattle.base.specs.Lists.{every, count, same, lowest_absent}
use Rattle.megaco.specs.Table.{line_terminations, ephemerals, terminations, contexts, words, most_lines, fitted, Sized, most, map_start, prop, rec, used, flow, speech, low_flow, high_flow, speech_word, ctx, cell, regions, place, get, map_words, places, free_ephemeral, used_ephemerals, context_words, property_words, record_words, flow_words, ephemeral_contexts, ephemeral_properties, members, mode_of, state_of, is_property_word, absent_are_zero, record_is_sound, records_are_sound, sized, map_is_sound, flows_are_sound, speech_words, side_is_sound, speech_is_sound, sound}
use Rattle.megaco.proofs.Regions.{place_is, context_region, property_region, record_region, map_region, flow_region, speech_region}
use Rattle.megaco.specs.Square.{bits, rows, square_of, may_flow, row_is_sound, rows_are_sound, square_is_sound}
use Rattle.megaco.specs.Map.{digits, digit, marks, in_use}
use Rattle.megaco.proofs.Places.{length_digits, digits_joined, length_marks, marks_at, same_at, walk_marks, count_marks}
use Rattle.base.proofs.TestLaws.{clash, same_is, and_both, both_and, pick_both, both_pick, pick_other, other_pick, below, below_at}
use Rattle.megaco.proofs.Sizes.{sized_is, is_sized}
use Rattle.laws.specs.Sound.{SoundFlows, SoundWord, SoundRecord, SoundSide, Whole}
use Rattle.laws.proofs.Flows.{flows_sound, sound_flows}
use Rattle.laws.proofs.Sides.{SideIn, speech_at_lem, at_speech}

-- ---- facts

-- a context has a record exactly when some termination stands in it
pub alive : (t : List ℕ) → Whole t → (c : ℕ) → 0 < c → c ≤ contexts → 0 < members c t → 0 < get t (cell (rec c))
alive t w c p q h = let s = w.held c p q in omega arith

pub has_members : (t : List ℕ) → Whole t → (c : ℕ) → 0 < c → c ≤ contexts → 0 < get t (cell (rec c)) → 0 < members c t
has_members t w c p q h = let s = w.held c p q in omega arith

-- ---- the tests of one word, and of one record

pub word_sound : (w : ℕ) → is_property_word w ≡ true → SoundWord w
unfolding is_property_word
word_sound w e =
    let b = and_both (leb (mode_of w) 4) (leb (state_of w) 2) e in
    record { mode = leb-true (mode_of w) 4 b.0; state = leb-true (state_of w) 2 b.1 }

pub sound_word : (w : ℕ) → SoundWord w → is_property_word w ≡ true
unfolding is_property_word
sound_word w s = both_and (leb (mode_of w) 4) (leb (state_of w) 2) (le-leb (mode_of w) 4 s.mode) (le-leb (state_of w) 2 s.state)

-- both are 0, or neither
both_zero : (r m : ℕ) (b : Bool) → eqb m 0 ≡ b → pick b (eqb r 0) (not (eqb r 0)) ≡ true → min r 1 ≡ min m 1
unfolding pick
both_zero r m true e h = omega (arith, eqb-true m 0 e, eqb-true r 0 h)
both_zero r m false e h = omega (arith, eqb-false m 0 e, eqb-false r 0 (not-true (eqb r 0) h))

zero_both : (r m : ℕ) (b : Bool) → eqb m 0 ≡ b → min r 1 ≡ min m 1 → pick b (eqb r 0) (not (eqb r 0)) ≡ true
unfolding pick
zero_both r m true e h = eq-eqb r 0 (omega (arith, eqb-true m 0 e))
zero_both r m false e h = ap not (ne_eqb r 0 (λ z. eqb-false m 0 e (omega arith)))

pub record_sound : (r m : ℕ) → record_is_sound r m ≡ true → SoundRecord r m
unfolding record_is_sound
record_sound r m e =
    let p : Bool = pick (eqb m 0) (eqb r 0) (not (eqb r 0)) in
    let b = and_both (leb r 32 && p) (leb m most) e in
    let a = and_both (leb r 32) p b.0 in
    record { low = leb-true r 32 a.0; both = both_zero r m (eqb m 0) refl a.1; room = leb-true m most b.1 }

pub sound_record : (r m : ℕ) → SoundRecord r m → record_is_sound r m ≡ true
unfolding record_is_sound
sound_record r m s = rw (le-leb r 32 s.low, zero_both r m (eqb m 0) refl s.both) (le-leb m most s.room)

-- ---- the tests of a row of words

module _ (p : ℕ → Bool) where
  every_at : (l : List ℕ) → every p l ≡ true → (i : ℕ) → i < length l → p (get_or l i 0) ≡ true
  unfolding every
  every_at [] e i h = absurd (omega arith)
  every_at (x ∷ xs) e zero h = (pick_both (p x) (every p xs) e).0
  every_at (x ∷ xs) e (suc i) h = every_at xs (pick_both (p x) (every p xs) e).1 i (omega arith)

  at_every : (l : List ℕ) → ((i : ℕ) → i < length l → p (get_or l i 0) ≡ true) → every p l ≡ true
  unfolding every
  at_every [] f = refl
  at_every (x ∷ xs) f = both_pick (p x) (every p xs) (f 0 (omega arith)) (at_every xs (λ i h. f (suc i) (omega arith)))

absent_at : (cs ps : List ℕ) → absent_are_zero cs ps ≡ true → (i : ℕ) → i < length cs → i < length ps → get_or cs i 0 ≡ 0 → get_or ps i 0 ≡ 0
unfolding absent_are_zero
absent_at [] ps e i h k z = absurd (omega arith)
absent_at (c ∷ cs) [] e i h k z = absurd (omega arith)
absent_at (c ∷ cs) (p ∷ ps) e zero h k z =
    eqb-true p 0 (not-false (eqb p 0) (rw (eq-eqb c 0 z) at (pick_other (eqb c 0 && not (eqb p 0)) (absent_are_zero cs ps) e).0))
absent_at (c ∷ cs) (p ∷ ps) e (suc i) h k z = absent_at cs ps (pick_other (eqb c 0 && not (eqb p 0)) (absent_are_zero cs ps) e).1 i (omega arith) (omega arith) z

at_absent : (cs ps : List ℕ) → ((i : ℕ) → i < length cs → i < length ps → get_or cs i 0 ≡ 0 → get_or ps i 0 ≡ 0) → absent_are_zero cs ps ≡ true
unfolding absent_are_zero
at_absent [] ps f = refl
at_absent (c ∷ cs) [] f = refl
at_absent (c ∷ cs) (p ∷ ps) f =
    other_pick (eqb c 0 && not (eqb p 0)) (absent_are_zero cs ps) (by (eqb c 0) refl) (at_absent cs ps (λ i h k. f (suc i) (omega arith) (omega arith)))
  where
    by : (b : Bool) → eqb c 0 ≡ b → b && not (eqb p 0) ≡ false
    by true e = ap not (eq-eqb p 0 (f 0 (omega arith) (omega arith) (eqb-true c 0 e)))
    by false e = refl

records_at : (cs : List ℕ) (c : ℕ) (rs : List ℕ) → records_are_sound cs c rs ≡ true → (i : ℕ) → i < length rs → SoundRecord (get_or rs i 0) (count (c + i) cs)
unfolding records_are_sound
records_at cs c [] e i h = absurd (omega arith)
records_at cs c (r ∷ rs) e zero h = rw add-zero (record_sound r (count c cs) (pick_both (record_is_sound r (count c cs)) (records_are_sound cs (c + 1) rs) e).0)
records_at cs c (r ∷ rs) e (suc i) h =
    let n : c + suc i ≡ c + 1 + i = omega arith in
    rw n (records_at cs (c + 1) rs (pick_both (record_is_sound r (count c cs)) (records_are_sound cs (c + 1) rs) e).1 i (omega arith))

at_records : (cs : List ℕ) (c : ℕ) (rs : List ℕ) → ((i : ℕ) → i < length rs → SoundRecord (get_or rs i 0) (count (c + i) cs)) → records_are_sound cs c rs ≡ true
unfolding records_are_sound
at_records cs c [] f = refl
at_records cs c (r ∷ rs) f =
    both_pick (record_is_sound r (count c cs)) (records_are_sound cs (c + 1) rs) (sound_record r (count c cs) (rw add-zero at (f 0 (omega arith))))
    (at_records cs (c + 1) rs (λ i h. let n : c + 1 + i ≡ c + suc i = omega arith in rw n (f (suc i) (omega arith))))

flows_at : (cs : List ℕ) (c : ℕ) (fs : List ℕ) → flows_are_sound cs c fs ≡ true → (i : ℕ) → 2 * i + 1 < length fs
    → SoundFlows (get_or fs (2 * i) 0) (get_or fs (2 * i + 1) 0) (count (c + i) cs)
unfolding flows_are_sound
flows_at cs c [] e i h = absurd (omega arith)
flows_at cs c (x ∷ []) e i h = absurd (clash (sym e))
flows_at cs c (x ∷ y ∷ fs) e zero h = rw add-zero (flows_sound x y (count c cs) (pick_both _ (flows_are_sound cs (c + 1) fs) e).0)
flows_at cs c (x ∷ y ∷ fs) e (suc i) h =
    let n : c + suc i ≡ c + 1 + i = omega arith in
    let u : 2 * suc i ≡ suc (suc (2 * i)) = omega arith in
    let v : 2 * suc i + 1 ≡ suc (suc (2 * i + 1)) = omega arith in
    rw (n, v, u) (flows_at cs (c + 1) fs (pick_both _ (flows_are_sound cs (c + 1) fs) e).1 i (omega arith))

at_flows : (cs : List ℕ) (c : ℕ) (fs : List ℕ) (k : ℕ) → length fs ≡ 2 * k
    → ((i : ℕ) → 2 * i + 1 < length fs → SoundFlows (get_or fs (2 * i) 0) (get_or fs (2 * i + 1) 0) (count (c + i) cs)) → flows_are_sound cs c fs ≡ true
unfolding flows_are_sound
at_flows cs c [] k l f = refl
at_flows cs c (x ∷ []) k l f = absurd (omega (arith, l))
at_flows cs c (x ∷ y ∷ fs) k l f =
    both_pick _ (flows_are_sound cs (c + 1) fs) (sound_flows x y (count c cs) (rw add-zero at (f 0 (omega arith))))
    (at_flows cs (c + 1) fs (k - 1) (omega (arith, l)) (λ i h.
    let n : c + 1 + i ≡ c + suc i = omega arith in
    let u : 2 * suc i ≡ suc (suc (2 * i)) = omega arith in
    let v : 2 * suc i + 1 ≡ suc (suc (2 * i + 1)) = omega arith in
    rw n (rw (v, u) at (f (suc i) (omega arith)))))

-- ---- the parts of a table

module _ (t : List ℕ) (l : length t ≡ words (fitted t)) where
  pub context_words_lem : length (context_words t) ≡ terminations (fitted t)
  context_words_lem = (context_region t).long l

  pub property_words_lem : length (property_words t) ≡ terminations (fitted t)
  property_words_lem = (property_region t).long l

  pub record_words_lem : length (record_words t) ≡ contexts
  record_words_lem = (record_region t).long l

  map_words_lem : length (map_words t) ≡ 2
  map_words_lem = (map_region t).long l

  flow_words_lem : length (flow_words t) ≡ 2 * contexts
  flow_words_lem = (flow_region t).long l

  pub ephemeral_contexts_lem : length (ephemeral_contexts t) ≡ ephemerals
  unfolding ephemeral_contexts
  ephemeral_contexts_lem = simp length-drop (omega (arith, context_words_lem))

  pub ephemeral_properties_lem : length (ephemeral_properties t) ≡ ephemerals
  unfolding ephemeral_properties
  ephemeral_properties_lem = simp length-drop (omega (arith, property_words_lem))

pub context_at_lem : (t : List ℕ) (i : ℕ) → i < terminations (fitted t) → get_or (context_words t) i 0 ≡ get t (ctx i)
context_at_lem t = (context_region t).stands

pub property_at_lem : (t : List ℕ) (i : ℕ) → i < terminations (fitted t) → get_or (property_words t) i 0 ≡ get t (cell (prop i))
property_at_lem t = (property_region t).stands

pub record_at : (t : List ℕ) (k : ℕ) → k < contexts → get_or (record_words t) k 0 ≡ get t (cell (rec (1 + k)))
record_at t k h = let n : 1 + k - 1 ≡ k = omega arith in rw n ((record_region t).stands k h)

map_word_at : (t : List ℕ) (k : ℕ) → k < 2 → get_or (map_words t) k 0 ≡ get_or t (map_start (fitted t) + k) 0
map_word_at t = (map_region t).from

flow_at_lem : (t : List ℕ) (k : ℕ) → k < 2 * contexts → get_or (flow_words t) k 0 ≡ get t (cell (flow k))
flow_at_lem t = (flow_region t).stands

-- a word of ephemeral j's speech
pub side_at : (t : List ℕ) (j side m : ℕ) → j < ephemerals → side < 2 → m < 4
    → get_or (speech_words t) (speech_word j side m) 0 ≡ get t (cell (speech (speech_word (line_terminations (fitted t) + j) side m)))
side_at t j side m h s o =
    let k : ℕ = speech_word (line_terminations (fitted t) + j) side m in
    let n : speech_word j side m ≡ 8 * (k / 8 - line_terminations (fitted t)) + k % 8 = omega arith in
    (speech_region t).stands (speech_word j side m) (omega arith) ∙ ap (λ (x : ℕ). get_or t (place 5 (regions (fitted t)) x) 0) n

pub ephemeral_context_at : (t : List ℕ) (k : ℕ) → k < ephemerals → get_or (ephemeral_contexts t) k 0 ≡ get t (ctx (line_terminations (fitted t) + k))
unfolding ephemeral_contexts
ephemeral_context_at t k h = get_or-drop (line_terminations (fitted t)) (context_words t) k 0 ∙ context_at_lem t (line_terminations (fitted t) + k) (omega arith)

pub ephemeral_property_at : (t : List ℕ) (k : ℕ) → k < ephemerals → get_or (ephemeral_properties t) k 0 ≡ get t (cell (prop (line_terminations (fitted t) + k)))
unfolding ephemeral_properties
ephemeral_property_at t k h = get_or-drop (line_terminations (fitted t)) (property_words t) k 0 ∙ property_at_lem t (line_terminations (fitted t) + k) (omega arith)

-- ---- the test of a table

-- the nine tests of `sound`, one by one
record NineTests (t : List ℕ) : Type 0 where
  size : sized t ≡ true
  stand : every (λ w. leb w contexts) (context_words t) ≡ true
  properties : every is_property_word (property_words t) ≡ true
  absents : absent_are_zero (ephemeral_contexts t) (ephemeral_properties t) ≡ true
  records : records_are_sound (context_words t) 1 (record_words t) ≡ true
  map : same (places t) (marks (ephemeral_contexts t)) ≡ true
  narrow : every (λ w. ltb w (2 ^ 32)) (map_words t) ≡ true
  flows : flows_are_sound (context_words t) 1 (flow_words t) ≡ true
  speech : speech_is_sound (ephemeral_contexts t) (speech_words t) ≡ true

sound_tests : (t : List ℕ) → sound t ≡ true → NineTests t
unfolding sound map_is_sound
sound_tests t e =
    let a = and_both _ _ e in
    let b₀ = and_both _ _ a.0 in
    let b₁ = and_both _ _ b₀.0 in
    let b₂ = and_both _ _ b₁.0 in
    let b₃ = and_both _ _ b₂.0 in
    let b₄ = and_both _ _ b₃.0 in
    let b₅ = and_both _ _ b₄.0 in
    let m = and_both _ _ b₁.1 in
    record { size = b₅.0; stand = b₅.1; properties = b₄.1; absents = b₃.1; records = b₂.1; map = m.1; narrow = m.0; flows = b₀.1; speech = a.1 }

tests_sound : (t : List ℕ) → NineTests t → sound t ≡ true
unfolding sound map_is_sound
tests_sound t s = rw (s.size, s.stand, s.properties, s.absents, s.records, s.narrow, s.map, s.flows, s.speech)

-- ---- the places of the map

get_d_right : (a b : List ℕ) (k j : ℕ) → k ≡ length a + j → get_or (a ++ b) k 0 ≡ get_or b j 0
get_d_right [] b k j e = ap (λ (x : ℕ). get_or b x 0) (omega (arith, e))
get_d_right (x ∷ a) b zero j e = absurd (omega (arith, e))
get_d_right (x ∷ a) b (suc k) j e = get_d_right a b k j (omega (arith, e))

pub places_long : (t : List ℕ) → length (places t) ≡ ephemerals
unfolding places
places_long t = simp (length-append, length_digits) refl

pub place_at : (t : List ℕ) (k : ℕ) → k < ephemerals → get_or (places t) k 0 ≡ get t (cell (used (line_terminations (fitted t) + k)))
unfolding places digit
place_at t k h = by (k / 32) refl
  where
    L : ℕ
    L = line_terminations (fitted t)

    a : ℕ
    a = map_start (fitted t)

    from : (q : ℕ) → (L + k - L) / 32 ≡ q → get_or t (a + q) 0 ≡ get_or t (place 3 (regions (fitted t)) ((L + k - L) / 32)) 0
    from q e = ap (λ (x : ℕ). get_or t x 0) (ap (λ (x : ℕ). a + x) (sym e) ∙ place_is 3 (regions (fitted t)) ((L + k - L) / 32))

    by : (q : ℕ) → k / 32 ≡ q → get_or (digits 32 (get_or t a 0) ++ digits 32 (get_or t (a + 1) 0)) k 0
        ≡ get_or (digits 32 (get_or t (place 3 (regions (fitted t)) ((L + k - L) / 32)) 0)) ((L + k - L) % 32) 0
    by zero e =
        let m : k ≡ (L + k - L) % 32 = omega (arith, e) in
        let f = rw add-zero at (from 0 (omega (arith, e))) in
        get_or-append (digits 32 (get_or t a 0)) (digits 32 (get_or t (a + 1) 0)) 0 k (omega (arith, e, length_digits 32 (get_or t a 0)))
        ∙ (λ j. get_or (digits 32 (f j)) (m j) 0)
    by (suc zero) e =
        let m : k - 32 ≡ (L + k - L) % 32 = omega (arith, e) in
        let f = from 1 (omega (arith, e)) in
        get_d_right (digits 32 (get_or t a 0)) (digits 32 (get_or t (a + 1) 0)) k (k - 32) (omega (arith, e, length_digits 32 (get_or t a 0)))
        ∙ (λ j. get_or (digits 32 (f j)) (m j) 0)
    by (suc (suc q)) e = absurd (omega (arith, e))

mark_is : (x : ℕ) → pick (eqb x 0) 0 1 ≡ min x 1
unfolding pick
mark_is zero = refl
mark_is (suc x) = rw (ne_eqb (suc x) 0 (λ e. omega (arith, e))) (omega arith)

pub sound_whole : (t : List ℕ) → sound t ≡ true → Whole t
unfolding members
sound_whole t e = record { some = size.some; few = size.few; long = long; place = place; word = word; absent = absent; held = held; marked = marked; flows = flows; speech = speech'; narrow = narrow }
  where
    s : NineTests t
    s = sound_tests t e

    size : Sized t
    size = sized_is t s.size

    long : length t ≡ words (fitted t)
    long = size.long

    place : (i : ℕ) → i < terminations (fitted t) → get t (ctx i) ≤ contexts
    place i h =
        rw (context_at_lem t i h) at (leb-true (get_or (context_words t) i 0) contexts (every_at (λ w. leb w contexts) (context_words t) s.stand i (omega (arith, context_words_lem t long))))

    word : (i : ℕ) → i < terminations (fitted t) → SoundWord (get t (cell (prop i)))
    word i h =
        rw (property_at_lem t i h) at (word_sound (get_or (property_words t) i 0) (every_at is_property_word (property_words t) s.properties i (omega (arith, property_words_lem t long))))

    absent : (i : ℕ) → line_terminations (fitted t) ≤ i → i < terminations (fitted t) → get t (ctx i) ≡ 0 → get t (cell (prop i)) ≡ 0
    absent i k h z =
        let j : ℕ = i - (line_terminations (fitted t)) in
        let n : i ≡ line_terminations (fitted t) + j = omega arith in
        let b : j < ephemerals = omega arith in
        let f = absent_at (ephemeral_contexts t) (ephemeral_properties t) s.absents j (omega (arith, ephemeral_contexts_lem t long)) (omega (arith, ephemeral_properties_lem t long)) in
        rw n (sym (ephemeral_property_at t j b) ∙ f (ephemeral_context_at t j b ∙ rw (← n) z))

    held : (c : ℕ) → 0 < c → c ≤ contexts → SoundRecord (get t (cell (rec c))) (members c t)
    held c p q =
        let k : ℕ = c - 1 in
        let n : c ≡ 1 + k = omega arith in
        let b : k < contexts = omega arith in
        rw n (rw (record_at t k b) at (records_at (context_words t) 1 (record_words t) s.records k (omega (arith, record_words_lem t long))))

    flows : (c : ℕ) → 0 < c → c ≤ contexts → SoundFlows (get t (cell (flow (low_flow c)))) (get t (cell (flow (high_flow c)))) (members c t)
    flows c p q =
        let n : 1 + (c - 1) ≡ c = omega arith in
        rw (flow_at_lem t (2 * (c - 1)) (omega arith), flow_at_lem t (2 * (c - 1) + 1) (omega arith), n)
        at (flows_at (context_words t) 1 (flow_words t) s.flows (c - 1) (omega (arith, flow_words_lem t long)))

    speech' : (i side : ℕ) → line_terminations (fitted t) ≤ i → i < terminations (fitted t) → side < 2
        → SoundSide (get t (ctx i)) (get t (cell (speech (speech_word i side 0)))) (get t (cell (speech (speech_word i side 1)))) (get t (cell (speech (speech_word i side 2)))) (get t (cell (speech (speech_word i side 3))))
    speech' i side k h o =
        let j : ℕ = i - line_terminations (fitted t) in
        let n : i ≡ line_terminations (fitted t) + j = omega arith in
        let b : j < ephemerals = omega arith in
        let f = speech_at_lem (ephemeral_contexts t) (speech_words t) s.speech j side (omega (arith, ephemeral_contexts_lem t long)) o in
        rw n
        (rw (ephemeral_context_at t j b, side_at t j side 0 b o (omega arith), side_at t j side 1 b o (omega arith), side_at t j side 2 b o (omega arith), side_at t j side 3 b o (omega arith))
        at f)

    narrow : (k : ℕ) → k < 2 → get_or t (map_start (fitted t) + k) 0 < 2 ^ 32
    narrow k h = ltb-true _ _ (rw (map_word_at t k h) at (every_at (λ w. ltb w (2 ^ 32)) (map_words t) s.narrow k (omega (arith, map_words_lem t long))))

    marked : (i : ℕ) → line_terminations (fitted t) ≤ i → i < terminations (fitted t) → get t (cell (used i)) ≡ min (get t (ctx i)) 1
    marked i k h =
        let j : ℕ = i - line_terminations (fitted t) in
        let n : i ≡ line_terminations (fitted t) + j = omega arith in
        let b : j < ephemerals = omega arith in
        let p : get_or (places t) j 0 ≡ get_or (marks (ephemeral_contexts t)) j 0 = ap (λ (l : List ℕ). get_or l j 0) (same_is (places t) (marks (ephemeral_contexts t)) s.map) in
        let q = marks_at (ephemeral_contexts t) j (omega (arith, ephemeral_contexts_lem t long)) ∙ mark_is (get_or (ephemeral_contexts t) j 0) in
        rw n (sym (place_at t j b) ∙ p ∙ q ∙ ap (λ (x : ℕ). min x 1) (ephemeral_context_at t j b))

pub whole_sound : (t : List ℕ) → Whole t → sound t ≡ true
unfolding members
whole_sound t w =
    tests_sound t
    (record {
      size = is_sized t (record { some = w.some; few = w.few; long = w.long });
      stand = at_every (λ x. leb x contexts) (context_words t) place;
      properties = at_every is_property_word (property_words t) word;
      absents = at_absent (ephemeral_contexts t) (ephemeral_properties t) absent;
      records = at_records (context_words t) 1 (record_words t) held;
      map = same_at (places t) (marks (ephemeral_contexts t)) (places_long t ∙ sym (length_marks (ephemeral_contexts t) ∙ ephemeral_contexts_lem t w.long)) marked;
      narrow = at_every (λ x. ltb x (2 ^ 32)) (map_words t) narrow;
      flows = at_flows (context_words t) 1 (flow_words t) contexts (flow_words_lem t w.long) flows;
      speech = at_speech (ephemeral_contexts t) (speech_words t) speech';
    })
  where
    place : (i : ℕ) → i < length (context_words t) → leb (get_or (context_words t) i 0) contexts ≡ true
    place i h =
        let b : i < terminations (fitted t) = omega (arith, context_words_lem t w.long) in
        rw (context_at_lem t i b) (le-leb (get t (ctx i)) contexts (w.place i b))

    word : (i : ℕ) → i < length (property_words t) → is_property_word (get_or (property_words t) i 0) ≡ true
    word i h =
        let b : i < terminations (fitted t) = omega (arith, property_words_lem t w.long) in
        rw (property_at_lem t i b) (sound_word (get t (cell (prop i))) (w.word i b))

    absent : (i : ℕ) → i < length (ephemeral_contexts t) → i < length (ephemeral_properties t) → get_or (ephemeral_contexts t) i 0 ≡ 0 → get_or (ephemeral_properties t) i 0 ≡ 0
    absent i h k z =
        let b : i < ephemerals = omega (arith, ephemeral_contexts_lem t w.long) in
        ephemeral_property_at t i b ∙ w.absent (line_terminations (fitted t) + i) (omega arith) (omega arith) (sym (ephemeral_context_at t i b) ∙ z)

    held : (i : ℕ) → i < length (record_words t) → SoundRecord (get_or (record_words t) i 0) (count (1 + i) (context_words t))
    held i h =
        let b : i < contexts = omega (arith, record_words_lem t w.long) in
        rw (record_at t i b) (w.held (1 + i) (omega arith) (omega arith))

    flows : (i : ℕ) → 2 * i + 1 < length (flow_words t) → SoundFlows (get_or (flow_words t) (2 * i) 0) (get_or (flow_words t) (2 * i + 1) 0) (count (1 + i) (context_words t))
    flows i h =
        let b : 2 * i + 1 < 2 * contexts = omega (arith, flow_words_lem t w.long) in
        let n : 1 + i - 1 ≡ i = omega arith in
        rw (flow_at_lem t (2 * i) (omega arith), flow_at_lem t (2 * i + 1) b) (rw n at (w.flows (1 + i) (omega arith) (omega arith)))

    speech' : (i side : ℕ) → i < length (ephemeral_contexts t) → side < 2 → SideIn (get_or (ephemeral_contexts t) i 0) (speech_words t) i side
    speech' i side h o =
        let b : i < ephemerals = omega (arith, ephemeral_contexts_lem t w.long) in
        rw (ephemeral_context_at t i b, side_at t i side 0 b o (omega arith), side_at t i side 1 b o (omega arith), side_at t i side 2 b o (omega arith), side_at t i side 3 b o (omega arith))
        (w.speech (line_terminations (fitted t) + i) side (omega arith) (omega arith) o)

    narrow : (k : ℕ) → k < length (map_words t) → ltb (get_or (map_words t) k 0) (2 ^ 32) ≡ true
    narrow k h = let b : k < 2 = omega (arith, map_words_lem t w.long) in rw (map_word_at t k b) (lt-ltb _ _ (w.narrow k b))

    marked : (k : ℕ) → k < length (places t) → get_or (places t) k 0 ≡ get_or (marks (ephemeral_contexts t)) k 0
    marked k h =
        let b : k < ephemerals = omega (arith, places_long t) in
        place_at t k b ∙ w.marked (line_terminations (fitted t) + k) (omega arith) (omega arith)
        ∙ sym (marks_at (ephemeral_contexts t) k (omega (arith, ephemeral_contexts_lem t w.long)) ∙ mark_is (get_or (ephemeral_contexts t) k 0) ∙ ap (λ (x : ℕ). min x 1) (ephemeral_context_at t k b))

-- "on any sound table proved equal to the full walk"
pub free_walk : (t : List ℕ) → sound t ≡ true → free_ephemeral t ≡ lowest_absent 1 (ephemeral_contexts t)
unfolding free_ephemeral
free_walk t e = ap (lowest_absent 1) (same_is (places t) (marks (ephemeral_contexts t)) (sound_tests t e).map) ∙ walk_marks 1 (ephemeral_contexts t)

pub used_walk : (t : List ℕ) → sound t ≡ true → used_ephemerals t ≡ in_use (ephemeral_contexts t)
unfolding used_ephemerals
used_walk t e = ap in_use (same_is (places t) (marks (ephemeral_contexts t)) (sound_tests t e).map) ∙ count_marks (ephemeral_contexts t)

-- the map "given as one number"
module _ (t : List ℕ) (e : sound t ≡ true) (low high : ℕ) (p : low ≡ get_or t (map_start (fitted t)) 0) (q : high ≡ get_or t (map_start (fitted t) + 1) 0) where
  number_places : digits 64 (low + high * 2 ^ 32) ≡ places t
  unfolding places
  number_places = digits_joined 32 32 low high (rw p (rw add-zero at ((sound_whole t e).narrow 0 (omega arith)))) ∙ rw (p, q)

  pub number_free : lowest_absent 1 (digits 64 (low + high * 2 ^ 32)) ≡ lowest_absent 1 (ephemeral_contexts t)
  unfolding free_ephemeral
  number_free = ap (lowest_absent 1) number_places ∙ free_walk t e

  pub number_used : in_use (digits 64 (low + high * 2 ^ 32)) ≡ in_use (ephemeral_contexts t)
  unfolding used_ephemerals
  number_used = ap in_use number_places ∙ used_walk t e

-- "All zero is the fresh table", of any count of lines: one test computed over all of them
fresh_all : below (λ k. sound (replicate (words (k + 1)) 0)) most_lines ≡ true
unfolding below speech_words speech_is_sound side_is_sound flow_words flows_are_sound square_is_sound rows_are_sound row_is_sound may_flow square_of rows bits fitted sized sound context_words property_words record_words ephemeral_contexts ephemeral_properties map_words places digits marks same map_is_sound every is_property_word absent_are_zero record_is_sound records_are_sound count pick
fresh_all = refl

pub fresh_sound : (n : ℕ) → 0 < n → n ≤ most_lines → sound (replicate (words n) 0) ≡ true
fresh_sound n p q =
    let k : ℕ = n - 1 in
    let e : n ≡ k + 1 = omega arith in
    rw e (below_at (λ j. sound (replicate (words (j + 1)) 0)) most_lines k fresh_all (omega arith))

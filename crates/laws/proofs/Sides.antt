-- Where the speech of an ephemeral goes: sound words as facts, and both ways to the test; and what writes leave of them.
use Prim.Native.Nat.{ℕ, zero, suc, ◌+◌, ◌^◌, ◌≤◌, ◌<◌}
use mathlib.Core.Path.{◌≡◌, refl, sym, ap, ◌∙◌}
use mathlib.Core.Bool.{Bool, true, false, not, ◌&&◌, ◌||◌}
use mathlib.Core.List.{List, [], ◌∷◌}
use lib.ListN.{length, get_or, drop}
use lib.Seq.{get_or-drop}
use lib.Dec.{ltb, leb, eqb}
use borrow.Author.Tests.{eqb-true, eqb-false, eq-eqb, ne_eqb, ltb-true, lt-ltb, leb-true, le-leb, not-true}
use native.Mathlib.Omega.{arith}
use native.Mathlib.Decide.{ℕ_discrete}
use Rattle.base.specs.Pick.{pick}
use Rattle.base.proofs.TestLaws.{clash, and_both, pick_both, both_pick}
use Rattle.protocol.specs.Types.{Speech, Kept, Released, Session}
use Rattle.protocol.specs.Ranges.{SpeechInRange, kept, released, session}
use Rattle.megaco.specs.Table.{line_terminations, terminations, prop, rec, used, flow, speech, speech_word, Slot, ctx, cell, Write, is_ephemeral, side_is_sound, speech_is_sound}
use Rattle.megaco.specs.Attempt.{speaks, side_writes, speaking}
use Rattle.laws.specs.Sound.{SoundSide, silent, sends}
use Rattle.laws.specs.Slots.{Valid}
use Rattle.laws.proofs.Slots.{holds, Within}

-- ---- the test of one side, and of a row of words

pub side_sound : (c f a p k : ℕ) → side_is_sound c f a p k ≡ true → SoundSide c f a p k
unfolding side_is_sound
side_sound c f a p k e = by (eqb f 0) refl e
  where
    by : (b : Bool) → eqb f 0 ≡ b
        → pick b (eqb a 0 && eqb p 0 && eqb k 0) (eqb f 1 && not (eqb c 0) && ltb a (2 ^ 32) && leb p 65535 && leb k 127) ≡ true → SoundSide c f a p k
    by true n e =
        let x = and_both (eqb a 0 && eqb p 0) (eqb k 0) (unfold pick in e) in
        let y = and_both (eqb a 0) (eqb p 0) x.0 in
        rw (eqb-true f 0 n, eqb-true a 0 y.0, eqb-true p 0 y.1, eqb-true k 0 x.1) silent
    by false n e =
        let x = and_both (eqb f 1 && not (eqb c 0) && ltb a (2 ^ 32) && leb p 65535) (leb k 127) (unfold pick in e) in
        let y = and_both (eqb f 1 && not (eqb c 0) && ltb a (2 ^ 32)) (leb p 65535) x.0 in
        let z = and_both (eqb f 1 && not (eqb c 0)) (ltb a (2 ^ 32)) y.0 in
        let w = and_both (eqb f 1) (not (eqb c 0)) z.0 in
        let o : 0 < c = omega (arith, eqb-false c 0 (not-true (eqb c 0) w.1)) in
        rw (eqb-true f 1 w.0) (sends o (ltb-true a (2 ^ 32) z.1) (leb-true p 65535 y.1) (leb-true k 127 x.1))

pub sound_side : (c f a p k : ℕ) → SoundSide c f a p k → side_is_sound c f a p k ≡ true
unfolding side_is_sound pick
sound_side c _ _ _ _ silent = refl
sound_side c _ _ _ _ (sends {a = a} {p = p} {k = k} h x y z) =
    rw (ne_eqb c 0 (λ e. omega (arith, e, h)), lt-ltb a (2 ^ 32) x, le-leb p 65535 y, le-leb k 127 z)

-- the four words of a side of ephemeral i in a row of words
abbrev pub SideIn : ℕ → List ℕ → ℕ → ℕ → Type 0
SideIn c ws i side =
    SoundSide c (get_or ws (speech_word i side 0) 0) (get_or ws (speech_word i side 1) 0) (get_or ws (speech_word i side 2) 0) (get_or ws (speech_word i side 3) 0)

next_side : (c : ℕ) (ws : List ℕ) (i side : ℕ) → SideIn c (drop 8 ws) i side → SideIn c ws (suc i) side
next_side c ws i side s =
    let w : (j : ℕ) → get_or (drop 8 ws) (speech_word i side j) 0 ≡ get_or ws (speech_word (suc i) side j) 0 =
    λ j. get_or-drop 8 ws (speech_word i side j) 0 ∙ (let n : 8 + speech_word i side j ≡ speech_word (suc i) side j = omega arith in ap (λ (x : ℕ). get_or ws x 0) n) in
    rw (w 0, w 1, w 2, w 3) at s

side_next : (c : ℕ) (ws : List ℕ) (i side : ℕ) → SideIn c ws (suc i) side → SideIn c (drop 8 ws) i side
side_next c ws i side s =
    let w : (j : ℕ) → get_or (drop 8 ws) (speech_word i side j) 0 ≡ get_or ws (speech_word (suc i) side j) 0 =
    λ j. get_or-drop 8 ws (speech_word i side j) 0 ∙ (let n : 8 + speech_word i side j ≡ speech_word (suc i) side j = omega arith in ap (λ (x : ℕ). get_or ws x 0) n) in
    rw (w 0, w 1, w 2, w 3) s

abbrev first_of : ℕ → List ℕ → Bool
first_of c ws = side_is_sound c (get_or ws 0 0) (get_or ws 1 0) (get_or ws 2 0) (get_or ws 3 0)

abbrev second_of : ℕ → List ℕ → Bool
second_of c ws = side_is_sound c (get_or ws 4 0) (get_or ws 5 0) (get_or ws 6 0) (get_or ws 7 0)

pub speech_at_lem : (cs ws : List ℕ) → speech_is_sound cs ws ≡ true → (i side : ℕ) → i < length cs → side < 2 → SideIn (get_or cs i 0) ws i side
unfolding speech_is_sound
speech_at_lem [] ws e i side h s = absurd (omega arith)
speech_at_lem (c ∷ cs) ws e zero zero h s = side_sound c _ _ _ _ (and_both (first_of c ws) (second_of c ws) (pick_both _ (speech_is_sound cs (drop 8 ws)) e).0).0
speech_at_lem (c ∷ cs) ws e zero (suc zero) h s = side_sound c _ _ _ _ (and_both (first_of c ws) (second_of c ws) (pick_both _ (speech_is_sound cs (drop 8 ws)) e).0).1
speech_at_lem (c ∷ cs) ws e zero (suc (suc side)) h s = absurd (omega arith)
speech_at_lem (c ∷ cs) ws e (suc i) side h s = next_side (get_or cs i 0) ws i side (speech_at_lem cs (drop 8 ws) (pick_both _ (speech_is_sound cs (drop 8 ws)) e).1 i side (omega arith) s)

pub at_speech : (cs ws : List ℕ) → ((i side : ℕ) → i < length cs → side < 2 → SideIn (get_or cs i 0) ws i side) → speech_is_sound cs ws ≡ true
unfolding speech_is_sound
at_speech [] ws f = refl
at_speech (c ∷ cs) ws f =
    both_pick _ (speech_is_sound cs (drop 8 ws)) (rw (sound_side c _ _ _ _ (f 0 0 (omega arith) (omega arith))) (sound_side c _ _ _ _ (f 0 1 (omega arith) (omega arith))))
    (at_speech cs (drop 8 ws) (λ i side h s. side_next (get_or cs i 0) ws i side (f (suc i) side (omega arith) s)))

-- ---- what writes leave of them

-- what is given for a side, and word j of it after that
abbrev pub side_of : ℕ → Speech → Speech → Speech
side_of zero l r = l
side_of (suc side) l r = r

abbrev pub side_word : Speech → ℕ → ℕ → ℕ
side_word Kept j v = v
side_word Released j v = 0
side_word (Session a p k) zero v = 1
side_word (Session a p k) (suc zero) v = a
side_word (Session a p k) (suc (suc zero)) v = p
side_word (Session a p k) (suc (suc (suc j))) v = k

-- the writes give termination i what l says of Local and r of Remote, and no other anything
pub record Voices (i : ℕ) (l r : Speech) (ws : List Write) : Type 0 where
  pub said : (k side j v : ℕ) → side < 2 → j < 4 → holds ws (cell (speech (speech_word k side j))) v ≡ pick (eqb i k) (side_word (side_of side l r) j v) v

-- a word of speech tells its termination, its side and which of four it is
word_alike : (i s a k r b : ℕ) → s < 2 → r < 2 → a < 4 → b < 4 → eqb (speech_word i s a) (speech_word k r b) ≡ ((eqb i k && eqb s r) && eqb a b)
word_alike i s a k r b hs hr ha hb = by (ℕ_discrete i k) (ℕ_discrete s r) (ℕ_discrete a b)
  where
    by : Dec (i ≡ k) → Dec (s ≡ r) → Dec (a ≡ b) → eqb (speech_word i s a) (speech_word k r b) ≡ ((eqb i k && eqb s r) && eqb a b)
    by (yes x) (yes y) (yes z) = rw (x, y, z, eq-eqb k k refl, eq-eqb r r refl, eq-eqb b b refl) (eq-eqb (speech_word k r b) (speech_word k r b) refl)
    by (yes x) (yes y) (no z) = ne_eqb (speech_word i s a) (speech_word k r b) (λ e. z (omega (arith, e, x, y))) ∙ sym (rw (eq-eqb i k x, eq-eqb s r y, ne_eqb a b z))
    by (yes x) (no y) q = ne_eqb (speech_word i s a) (speech_word k r b) (λ e. y (omega (arith, e, x, hs, hr, ha, hb))) ∙ sym (rw (eq-eqb i k x, ne_eqb s r y))
    by (no x) p q = ne_eqb (speech_word i s a) (speech_word k r b) (λ e. x (omega (arith, e, hs, hr, ha, hb))) ∙ sym (rw (ne_eqb i k x))

-- word j of four
abbrev of_four : ℕ → ℕ → ℕ → ℕ → ℕ → ℕ
of_four f a p q zero = f
of_four f a p q (suc zero) = a
of_four f a p q (suc (suc zero)) = p
of_four f a p q (suc (suc (suc j))) = q

four_writes : (b x₀ x₁ x₂ x₃ : Bool) (f a p q j v : ℕ) → j < 4 → x₀ ≡ (b && eqb 0 j) → x₁ ≡ (b && eqb 1 j) → x₂ ≡ (b && eqb 2 j) → x₃ ≡ (b && eqb 3 j)
    → pick x₃ q (pick x₂ p (pick x₁ a (pick x₀ f v))) ≡ pick b (of_four f a p q j) v
four_writes b x₀ x₁ x₂ x₃ f a p q j v h e₀ e₁ e₂ e₃ = rw (e₀, e₁, e₂, e₃) (by b j h)
  where
    by : (b : Bool) (j : ℕ) → j < 4 → pick (b && eqb 3 j) q (pick (b && eqb 2 j) p (pick (b && eqb 1 j) a (pick (b && eqb 0 j) f v))) ≡ pick b (of_four f a p q j) v
    by false j h = unfold pick in refl
    by true zero h = unfold pick in refl
    by true (suc zero) h = unfold pick in refl
    by true (suc (suc zero)) h = unfold pick in refl
    by true (suc (suc (suc zero))) h = unfold pick in refl
    by true (suc (suc (suc (suc j)))) h = absurd (omega arith)

-- one side
side_four : (i s f a p q : ℕ) (ws : List Write) (k r j v : ℕ) → s < 2 → r < 2 → j < 4
    → holds (side_writes i s f a p q ws) (cell (speech (speech_word k r j))) v ≡ holds ws (cell (speech (speech_word k r j))) (pick (eqb i k && eqb s r) (of_four f a p q j) v)
unfolding side_writes
side_four i s f a p q ws k r j v hs hr hj =
    ap (holds ws (cell (speech (speech_word k r j))))
    (four_writes (eqb i k && eqb s r) (eqb (speech_word i s 0) (speech_word k r j)) (eqb (speech_word i s 1) (speech_word k r j)) (eqb (speech_word i s 2) (speech_word k r j)) (eqb (speech_word i s 3) (speech_word k r j)) f a p q j v hj
    (word_alike i s 0 k r j hs hr (omega arith) hj) (word_alike i s 1 k r j hs hr (omega arith) hj) (word_alike i s 2 k r j hs hr (omega arith) hj) (word_alike i s 3 k r j hs hr (omega arith) hj))

side_holds : (i s : ℕ) (x : Speech) (ws : List Write) (k r j v : ℕ) → s < 2 → r < 2 → j < 4
    → holds (speaking i s x ws) (cell (speech (speech_word k r j))) v ≡ holds ws (cell (speech (speech_word k r j))) (pick (eqb i k && eqb s r) (side_word x j v) v)
unfolding speaking
side_holds i s Kept ws k r j v hs hr hj = ap (holds ws (cell (speech (speech_word k r j)))) (by (eqb i k && eqb s r))
  where
    by : (b : Bool) → v ≡ pick b v v
    by true = unfold pick in refl
    by false = unfold pick in refl
side_holds i s Released ws k r j v hs hr hj =
    side_four i s 0 0 0 0 ws k r j v hs hr hj ∙ ap (λ (w : ℕ). holds ws (cell (speech (speech_word k r j))) (pick (eqb i k && eqb s r) w v)) (none_of_four j)
  where
    none_of_four : (j : ℕ) → of_four 0 0 0 0 j ≡ 0
    none_of_four zero = refl
    none_of_four (suc zero) = refl
    none_of_four (suc (suc zero)) = refl
    none_of_four (suc (suc (suc j))) = refl
side_holds i s (Session a p q) ws k r j v hs hr hj =
    side_four i s 1 a p q ws k r j v hs hr hj ∙ ap (λ (w : ℕ). holds ws (cell (speech (speech_word k r j))) (pick (eqb i k && eqb s r) w v)) (each j)
  where
    each : (j : ℕ) → of_four 1 a p q j ≡ side_word (Session a p q) j v
    each zero = refl
    each (suc zero) = refl
    each (suc (suc zero)) = refl
    each (suc (suc (suc j))) = refl

-- both, before writes that have nothing to do with speech
abbrev pub Mute : List Write → Type 0
Mute ws = (k v : ℕ) → holds ws (cell (speech k)) v ≡ v

pub both_voices : (i : ℕ) (l r : Speech) (ws : List Write) → Mute ws → Voices i l r (speaking i 0 l (speaking i 1 r ws))
both_voices i l r ws m =
    record {
      said = λ k side j v s h.
          side_holds i 0 l (speaking i 1 r ws) k side j v (omega arith) s h
          ∙ side_holds i 1 r ws k side j _ (omega arith) s h
          ∙ m (speech_word k side j) _
          ∙ by (eqb i k) side j v s;
    }
  where
    by : (b : Bool) (side j v : ℕ) → side < 2
        → pick (b && eqb 1 side) (side_word r j (pick (b && eqb 0 side) (side_word l j v) v)) (pick (b && eqb 0 side) (side_word l j v) v) ≡ pick b (side_word (side_of side l r) j v) v
    by true zero j v s = unfold pick in refl
    by true (suc zero) j v s = unfold pick in refl
    by false zero j v s = unfold pick in refl
    by false (suc zero) j v s = unfold pick in refl
    by b (suc (suc side)) j v s = absurd (omega arith)

pub mute_voices : (i : ℕ) (ws : List Write) → Mute ws → Voices i Kept Kept ws
mute_voices i ws m = record { said = λ k side j v s h. m (speech_word k side j) v ∙ by (eqb i k) side j v }
  where
    by : (b : Bool) (side j v : ℕ) → v ≡ pick b (side_word (side_of side Kept Kept) j v) v
    by true zero j v = unfold pick in refl
    by true (suc side) j v = unfold pick in refl
    by false side j v = unfold pick in refl

-- ---- what they leave of all else

abbrev pub Other : Slot → Type 0
Other (ctx i) = Unit {0}
Other (cell (prop i)) = Unit {0}
Other (cell (rec c)) = Unit {0}
Other (cell (used i)) = Unit {0}
Other (cell (flow k)) = Unit {0}
Other (cell (speech k)) = ⊥

side_other : (i side f a p k : ℕ) (ws : List Write) (s : Slot) (v : ℕ) → Other s → holds (side_writes i side f a p k ws) s v ≡ holds ws s v
unfolding side_writes pick
side_other i side f a p k ws (ctx j) v o = refl
side_other i side f a p k ws (cell (prop j)) v o = refl
side_other i side f a p k ws (cell (rec c)) v o = refl
side_other i side f a p k ws (cell (used j)) v o = refl
side_other i side f a p k ws (cell (flow j)) v o = refl
side_other i side f a p k ws (cell (speech j)) v o = absurd o

one_other : (i side : ℕ) (x : Speech) (ws : List Write) (s : Slot) (v : ℕ) → Other s → holds (speaking i side x ws) s v ≡ holds ws s v
unfolding speaking
one_other i side Kept ws s v o = refl
one_other i side Released ws s v o = side_other i side 0 0 0 0 ws s v o
one_other i side (Session a p k) ws s v o = side_other i side 1 a p k ws s v o

pub both_other : (i : ℕ) (l r : Speech) (ws : List Write) (s : Slot) (v : ℕ) → Other s → holds (speaking i 0 l (speaking i 1 r ws)) s v ≡ holds ws s v
both_other i l r ws s v o = one_other i 0 l (speaking i 1 r ws) s v o ∙ one_other i 1 r ws s v o

-- ---- the words of an ephemeral's speech are words of the table

pub speech_there : (n i side j : ℕ) → line_terminations n ≤ i → i < terminations n → side < 2 → j < 4 → Valid n (cell (speech (speech_word i side j)))
speech_there n i side j k h s l = (omega arith, omega arith)

one_within : (n i side : ℕ) (x : Speech) (ws : List Write) → i < terminations n → side < 2 → (speaks x ≡ true → line_terminations n ≤ i) → Within n ws → Within n (speaking i side x ws)
unfolding speaking side_writes speaks
one_within n i side Kept ws h s f w = w
one_within n i side Released ws h s f w =
    (speech_there n i side 0 (f refl) h s (omega arith), (speech_there n i side 1 (f refl) h s (omega arith), (speech_there n i side 2 (f refl) h s (omega arith), (speech_there n i side 3 (f refl) h s (omega arith), w))))
one_within n i side (Session a p k) ws h s f w =
    (speech_there n i side 0 (f refl) h s (omega arith), (speech_there n i side 1 (f refl) h s (omega arith), (speech_there n i side 2 (f refl) h s (omega arith), (speech_there n i side 3 (f refl) h s (omega arith), w))))

-- where something is given, the termination is an ephemeral
pub record OnEphemeral (n i : ℕ) (l r : Speech) : Type 0 where
  pub local : speaks l ≡ true → line_terminations n ≤ i
  pub remote : speaks r ≡ true → line_terminations n ≤ i

pub on_ephemeral : (n i : ℕ) (l r : Speech) → not (is_ephemeral n i) && (speaks l || speaks r) ≡ false → OnEphemeral n i l r
unfolding is_ephemeral
on_ephemeral n i l r e = by (leb (line_terminations n) i) (speaks l) (speaks r) refl refl refl e
  where
    by : (b x y : Bool) → leb (line_terminations n) i ≡ b → speaks l ≡ x → speaks r ≡ y → not b && (x || y) ≡ false → OnEphemeral n i l r
    by true x y p q o e = record { local = λ _. leb-true (line_terminations n) i p; remote = λ _. leb-true (line_terminations n) i p }
    by false true y p q o e = absurd (clash e)
    by false false true p q o e = absurd (clash e)
    by false false false p q o e = record { local = λ u. absurd (clash (sym u ∙ q)); remote = λ u. absurd (clash (sym u ∙ o)) }

pub both_within : (n i : ℕ) (l r : Speech) (ws : List Write) → i < terminations n → OnEphemeral n i l r → Within n ws → Within n (speaking i 0 l (speaking i 1 r ws))
both_within n i l r ws h o w = one_within n i 0 l (speaking i 1 r ws) h (omega arith) o.local (one_within n i 1 r ws h (omega arith) o.remote w)

-- ---- a termination that goes from d to x

-- what may be given to it
pub data MaySay (d x : ℕ) : Speech → Type 0 where
  keeps : (0 < d → 0 < x) → MaySay d x Kept
  releases : MaySay d x Released
  says : {a p k : ℕ} → 0 < x → a < 2 ^ 32 → p ≤ 65535 → k ≤ 127 → MaySay d x (Session a p k)

pub may_say : (d x : ℕ) (s : Speech) → 0 < x → SpeechInRange s → MaySay d x s
may_say d x _ h kept = keeps (λ _. h)
may_say d x _ h released = releases
may_say d x _ h (session a p k) = says h a p k

pub side_goes : (d x f a p k : ℕ) (s : Speech) → MaySay d x s → SoundSide d f a p k → SoundSide x (side_word s 0 f) (side_word s 1 a) (side_word s 2 p) (side_word s 3 k)
side_goes d x _ _ _ _ _ (keeps h) silent = silent
side_goes d x _ _ _ _ _ (keeps h) (sends q a p k) = sends (h q) a p k
side_goes d x f a p k _ releases o = silent
side_goes d x f a p k _ (says h u v w) o = sends h u v w

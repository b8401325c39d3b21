-- What an attempt leaves of every word of speech, from what its writes say.
use Prim.Native.Nat.{ℕ, zero, suc, ◌+◌, ◌*◌, ◌-◌, ◌/◌, ◌%◌, ◌≤◌, ◌<◌}
use mathlib.Core.Path.{◌≡◌, refl, sym, ap, ◌∙◌}
use mathlib.Core.Logic.{◌≢◌}
use mathlib.Core.Bool.{Bool, true, false, ◌||◌}
use mathlib.Core.List.{List, [], ◌∷◌}
use lib.ListN.{length, get_or}
use lib.Seq.{ext_get_or}
use lib.Dec.{eqb}
use borrow.Author.Tests.{eq-eqb, ne_eqb, le-leb}
use native.Mathlib.Omega.{arith}
use Rattle.base.specs.Pick.{pick}
use Rattle.base.proofs.TestLaws.{clash}
use Rattle.protocol.specs.Types.{Context, Op, Add, Modify, Subtract, Move, AuditValue, Checked, Speech, Kept, Released, Session, Values}
use Rattle.megaco.specs.Table.{line_terminations, ephemerals, terminations, fitted, speech, speech_word, ctx, cell, get, Write, apply, speech_words, is_ephemeral}
use Rattle.megaco.specs.Attempt.{look, checks, speaks, changes, Effect, concluded, effect}
use Rattle.megaco.proofs.Regions.{speech_region}
use Rattle.laws.specs.Passed.{Passed}
use Rattle.laws.specs.Sound.{SoundSide, silent, sends, Whole}
use Rattle.laws.specs.Speech.{Line, Ephemeral, four_words, replaced, for_side, said_by, SpeechLeft, SpeechLaw}
use Rattle.laws.proofs.Passed.{judged}
use Rattle.laws.proofs.Slots.{Within, length_apply, fitted_apply, get_apply}
use Rattle.laws.proofs.Sound.{sound_whole, side_at}
use Rattle.laws.proofs.Sides.{side_of, side_word, Voices, speech_there, OnEphemeral}
use Rattle.laws.proofs.Attempts.{MayAttempt, added_absent, says_ephemeral, said_on, attempt_says}
use Rattle.laws.proofs.Kept.{ready}

-- word by word and all four together
four : (x : Speech) (f a p k : ℕ) → (side_word x 0 f ∷ side_word x 1 a ∷ side_word x 2 p ∷ side_word x 3 k ∷ []) ≡ replaced x (f ∷ a ∷ p ∷ k ∷ [])
four Kept f a p k = refl
four Released f a p k = refl
four (Session b q l) f a p k = refl

said_side : (op : Op) (n i side : ℕ) (vs : Values) → line_terminations n ≤ i
    → side_of side (said_on op n i vs.local) (said_on op n i vs.remote) ≡ said_by op (for_side side vs)
unfolding is_ephemeral pick
said_side Add n i zero vs h = refl
said_side Add n i (suc side) vs h = refl
said_side Modify n i zero vs h = refl
said_side Modify n i (suc side) vs h = refl
said_side Subtract n i zero vs h = rw (le-leb (line_terminations n) i h)
said_side Subtract n i (suc side) vs h = rw (le-leb (line_terminations n) i h)
said_side Move n i zero vs h = refl
said_side Move n i (suc side) vs h = refl
said_side AuditValue n i zero vs h = refl
said_side AuditValue n i (suc side) vs h = refl

-- ---- what writes leave

module _ (t : List ℕ) (i : ℕ) (l r : Speech) (ws : List Write) (W : Whole t) (I : Within (fitted t) ws) (X : Voices i l r ws) where
  word_left : (j side m : ℕ) → Ephemeral t j → side < 2 → m < 4
      → let v : ℕ = get t (cell (speech (speech_word j side m))) in
      get (apply ws t) (cell (speech (speech_word j side m))) ≡ pick (eqb i j) (side_word (side_of side l r) m v) v
  word_left j side m e s h =
      get_apply (fitted t) ws (cell (speech (speech_word j side m))) t I (speech_there (fitted t) j side m e.0 e.1 s h) W.long
      ∙ X.said j side m (get t (cell (speech (speech_word j side m)))) s h

  own_left : (side : ℕ) → Ephemeral t i → side < 2 → four_words (apply ws t) i side ≡ replaced (side_of side l r) (four_words t i side)
  unfolding pick
  own_left side e s =
      let w : (m : ℕ) → m < 4
      → get (apply ws t) (cell (speech (speech_word i side m))) ≡ side_word (side_of side l r) m (get t (cell (speech (speech_word i side m)))) =
      λ m h. word_left i side m e s h ∙ rw (eq-eqb i i refl) in
      rw (w 0 (omega arith), w 1 (omega arith), w 2 (omega arith), w 3 (omega arith)) (four (side_of side l r) _ _ _ _)

  other_left : (j side m : ℕ) → Ephemeral t j → side < 2 → m < 4 → i ≢ j
      → get (apply ws t) (cell (speech (speech_word j side m))) ≡ get t (cell (speech (speech_word j side m)))
  unfolding pick
  other_left j side m e s h n = word_left j side m e s h ∙ rw (ne_eqb i j n)

  others_left : (j side : ℕ) → Ephemeral t j → side < 2 → i ≢ j → four_words (apply ws t) j side ≡ four_words t j side
  others_left j side e s n =
      let w : (m : ℕ) → m < 4 → get (apply ws t) (cell (speech (speech_word j side m))) ≡ get t (cell (speech (speech_word j side m))) =
      λ m h. other_left j side m e s h n in
      rw (w 0 (omega arith), w 1 (omega arith), w 2 (omega arith), w 3 (omega arith))

  -- all words of the region, where the termination is a line
  line_left : Line t i → speech_words (apply ws t) ≡ speech_words t
  line_left h =
      ext_get_or 0 (speech_words (apply ws t)) (speech_words t) (long_u ∙ sym long_t) (λ k b. let q : k < 8 * ephemerals = omega (arith, b, long_u) in word k q)
    where
      f : fitted (apply ws t) ≡ fitted t
      f = fitted_apply ws t

      long_t : length (speech_words t) ≡ 8 * ephemerals
      long_t = (speech_region t).long W.long

      long_u : length (speech_words (apply ws t)) ≡ 8 * ephemerals
      long_u = (speech_region (apply ws t)).long (length_apply ws t ∙ W.long ∙ rw f)

      word : (k : ℕ) → k < 8 * ephemerals → get_or (speech_words (apply ws t)) k 0 ≡ get_or (speech_words t) k 0
      word k b =
          let j : ℕ = k / 8 in
          let side : ℕ = k % 8 / 4 in
          let m : ℕ = k % 4 in
          let n : k ≡ speech_word j side m = omega arith in
          let o : j < ephemerals = omega arith in
          let s : side < 2 = omega arith in
          let c : m < 4 = omega arith in
          ap (λ (x : ℕ). get_or (speech_words (apply ws t)) x 0) n
          ∙ side_at (apply ws t) j side m o s c
          ∙ ap (λ (x : ℕ). get (apply ws t) (cell (speech (speech_word (line_terminations x + j) side m)))) f
          ∙ other_left (line_terminations (fitted t) + j) side m (omega arith, omega arith) s c (λ z. omega (arith, z, h))
          ∙ sym (side_at t j side m o s c)
          ∙ ap (λ (x : ℕ). get_or (speech_words t) x 0) (sym n)

-- ---- one attempt

-- where something is said for a line no test of 447 is passed
no_speech : (n i : ℕ) (l r : Speech) → OnEphemeral n i l r → i < line_terminations n → speaks l || speaks r ≡ true → ⊥
no_speech n i l r o h e = by (speaks l) (speaks r) refl refl e
  where
    by : (x y : Bool) → speaks l ≡ x → speaks r ≡ y → x || y ≡ true → ⊥
    by true y p q e = omega (arith, o.local p, h)
    by false true p q e = omega (arith, o.remote q, h)
    by false false p q e = clash (sym e)

-- an ephemeral that is absent has four zeros
absent_four : (t : List ℕ) (i side : ℕ) → Whole t → Ephemeral t i → side < 2 → get t (ctx i) ≡ 0 → four_words t i side ≡ 0 ∷ 0 ∷ 0 ∷ 0 ∷ []
absent_four t i side W e s z = by _ _ _ _ (rw z at (W.speech i side e.0 e.1 s))
  where
    by : (f a p k : ℕ) → SoundSide 0 f a p k → (f ∷ a ∷ p ∷ k ∷ []) ≡ 0 ∷ 0 ∷ 0 ∷ 0 ∷ []
    by _ _ _ _ silent = refl
    by _ _ _ _ (sends h x y w) = absurd (omega arith)

passed_left : (op : Op) (given i : ℕ) (vs : Values) (at : Context) (t : List ℕ) → Whole t → MayAttempt op at t → i < terminations (fitted t)
    → Passed (checks op at i vs (look at i t)) → SpeechLeft op vs i true t (apply (changes op at given i vs (look at i t)) t)
passed_left op given i vs at t W j h p =
    let S = attempt_says op at given i vs t W j h p in
    let ws : List Write = changes op at given i vs (look at i t) in
    let l : Speech = said_on op (fitted t) i vs.local in
    let r : Speech = said_on op (fitted t) i vs.remote in
    let own : Ephemeral t i → (side : ℕ) → side < 2 → four_words (apply ws t) i side ≡ replaced (said_by op (for_side side vs)) (four_words t i side) =
    λ e side s. own_left t i l r ws W S.within S.voices side e s
    ∙ ap (λ (x : Speech). replaced x (four_words t i side)) (said_side op (fitted t) i side vs e.0) in
    record {
      own = λ _. own;
      others = λ k side e s n. others_left t i l r ws W S.within S.voices k side e s (λ z. n (sym z));
      anew = λ a _ e side s. own e side s ∙ rw (absent_four t i side W e s (added_absent at i vs t (rw a at p)), a);
      line = λ n. line_left t i l r ws W S.within S.voices n;
      line_447 = λ n x y. absurd (no_speech (fitted t) i vs.local vs.remote (says_ephemeral op at i vs t x p) n y);
      failed = λ e. absurd (clash e);
    }

failed_left : (op : Op) (i : ℕ) (vs : Values) (t : List ℕ) → SpeechLeft op vs i false t t
failed_left op i vs t =
    record {
      own = λ e. absurd (clash (sym e));
      others = λ j side e s n. refl;
      anew = λ a e. absurd (clash (sym e));
      line = λ n. refl;
      line_447 = λ n x y. refl;
      failed = λ _. refl;
    }

pub speech_law : SpeechLaw
unfolding effect concluded apply
speech_law =
    record {
      each = λ op wild name given vs i at t b x.
          judged
          (λ (c : Checked). let e : Effect = concluded op wild name given vs i at (look at i t) b c in SpeechLeft op vs i e.good t (apply e.writes t))
          (checks op at i vs (look at i t)) (λ code. failed_left op i vs t)
          (λ p. passed_left op given i vs at t (sound_whole t x.whole) (ready op at t x.allowed x.context) x.there p);
    }

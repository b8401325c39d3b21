-- Where the speech of the ephemerals goes: the passes over their words.
use Prim.Native.Nat.{ℕ, zero, suc, ◌+◌, ◌-◌, ◌*◌, ◌^◌, ◌<◌, ◌≤◌}
use mathlib.Core.Path.{◌≡◌, refl, sym, ◌∙◌}
use mathlib.Core.List.{List, [], ◌∷◌}
use mathlib.Core.Bool.{Bool, true, false, not, ◌&&◌, and_assoc}
use native.Mathlib.Numerals.{add-one}
use native.Mathlib.Nat.{zero-add, suc-add}
use native.Mathlib.Omega.{arith}
use lib.ListN.{length, get_or, take, drop, drop_of_length-le}
use lib.Seq.{drop-cons, drop-drop, take-nil, get_or-take, get_or-drop}
use lib.Dec.{leb, eqb}
use borrow.Author.Tests.{lt-ltb, eq-eqb, ne_eqb, eqb-true}
use Rattle.base.specs.Pick.{pick}
use Rattle.base.specs.Lists.{every}
use Rattle.base.proofs.TestLaws.{and_both}
use Rattle.megaco.specs.Table.{fitted, Sized, start_of, ephemeral_contexts, speech_words, side_is_sound, speech_is_sound}
use Rattle.megaco.proofs.Regions.{speech_region}
use Rattle.sound.proofs.SoundLaws.{one_more, no_more, picked, contexts_part}

-- ---- one side, as the code tests it

pub side_none : (c f a p k : ℕ) → f ≡ 0 → (eqb a 0 && eqb p 0 && eqb k 0) ≡ side_is_sound c f a p k
unfolding side_is_sound pick
side_none c f a p k e = rw (eq-eqb f 0 e)

pub side_some : (c f a p k : ℕ) → (f ≡ 0 → ⊥) → a < 2 ^ 32 → (eqb f 1 && not (eqb c 0) && leb p 65535 && leb k 127) ≡ side_is_sound c f a p k
unfolding side_is_sound pick
side_some c f a p k e h = rw (ne_eqb f 0 e, lt-ltb a (2 ^ 32) h) (by (eqb f 1 && not (eqb c 0)))
  where
    by : (b : Bool) → (b && leb p 65535 && leb k 127) ≡ (b && true && leb p 65535 && leb k 127)
    by true = refl
    by false = refl

-- ---- one ephemeral after the other

-- the test of one that has its words from place a on
abbrev both_sides : ℕ → List ℕ → ℕ → Bool
both_sides c ws a =
    side_is_sound c (get_or ws a 0) (get_or ws (a + 1) 0) (get_or ws (a + 2) 0) (get_or ws (a + 3) 0)
    && side_is_sound c (get_or ws (a + 4) 0) (get_or ws (a + 5) 0) (get_or ws (a + 6) 0) (get_or ws (a + 7) 0)

first_both : (c : ℕ) (cs ws : List ℕ) (a : ℕ) → speech_is_sound (c ∷ cs) (drop a ws) ≡ pick (both_sides c ws a) (speech_is_sound cs (drop (a + 8) ws)) false
unfolding speech_is_sound
first_both c cs ws a =
    let z : a + 0 ≡ a = omega arith in
    rw (get_or-drop a ws 0 0, get_or-drop a ws 1 0, get_or-drop a ws 2 0, get_or-drop a ws 3 0, get_or-drop a ws 4 0, get_or-drop a ws 5 0, get_or-drop a ws 6 0, get_or-drop a ws 7 0, drop-drop 8 a ws, z)

module _ (cs ws : List ℕ) (k : ℕ) (b q : Bool) (inv : q ≡ (b && speech_is_sound (drop k cs) (drop (8 * k) ws))) (l : length cs ≡ 16) where
  pub each_on : (x y : Bool) → k < 16
      → x ≡ side_is_sound (get_or cs k 0) (get_or ws (8 * k) 0) (get_or ws (8 * k + 1) 0) (get_or ws (8 * k + 2) 0) (get_or ws (8 * k + 3) 0)
      → y ≡ side_is_sound (get_or cs k 0) (get_or ws (8 * k + 4) 0) (get_or ws (8 * k + 5) 0) (get_or ws (8 * k + 6) 0) (get_or ws (8 * k + 7) 0)
      → q ≡ ((b && (x && y)) && speech_is_sound (drop (k + 1) cs) (drop (8 * (k + 1)) ws))
  each_on x y h e f =
      let n : 8 * (k + 1) ≡ 8 * k + 8 = omega arith in
      let m : (x && y) ≡ both_sides (get_or cs k 0) ws (8 * k) = rw (e, f) in
      inv ∙ rw (drop-cons cs k 0 (omega arith), first_both (get_or cs k 0) (drop (suc k) cs) ws (8 * k), ← m, n, add-one k) (one_more b (x && y) _)

  pub each_end : 16 ≤ k → b ≡ q
  unfolding speech_is_sound
  each_end h = let z : length cs ≤ k = omega arith in sym (inv ∙ rw (drop_of_length-le cs z) (no_more b))

-- ---- those of some together

-- no word set is sound with any contexts
pub none_at : (ws : List ℕ) → every (λ (w : ℕ). eqb w 0) ws ≡ true → (i : ℕ) → get_or ws i 0 ≡ 0
unfolding every
none_at [] e i = refl
none_at (x ∷ ws) e zero = eqb-true x 0 (picked (eqb x 0) (every (λ (w : ℕ). eqb w 0) ws) e).0
none_at (x ∷ ws) e (suc i) = none_at ws (picked (eqb x 0) (every (λ (w : ℕ). eqb w 0) ws) e).1 i

none_after : (n : ℕ) (ws : List ℕ) → every (λ (w : ℕ). eqb w 0) ws ≡ true → every (λ (w : ℕ). eqb w 0) (drop n ws) ≡ true
unfolding every
none_after zero ws e = e
none_after (suc n) [] e = refl
none_after (suc n) (x ∷ ws) e = none_after n ws (picked (eqb x 0) (every (λ (w : ℕ). eqb w 0) ws) e).1

none_sound : (cs ws : List ℕ) → every (λ (w : ℕ). eqb w 0) ws ≡ true → speech_is_sound cs ws ≡ true
unfolding speech_is_sound side_is_sound pick
none_sound [] ws e = refl
none_sound (c ∷ cs) ws e =
    rw (none_at ws e 0, none_at ws e 1, none_at ws e 2, none_at ws e 3, none_at ws e 4, none_at ws e 5, none_at ws e 6, none_at ws e 7)
    (none_sound cs (drop 8 ws) (none_after 8 ws e))

-- the words of sixteen ephemerals, in runs of 32
abbrev zeros : List ℕ → Bool
zeros ws = every (λ (w : ℕ). eqb w 0) ws

zeros_both : (n : ℕ) (ws : List ℕ) → zeros (take n ws) ≡ true → zeros (drop n ws) ≡ true → zeros ws ≡ true
unfolding every pick
zeros_both zero ws e f = f
zeros_both (suc n) [] e f = refl
zeros_both (suc n) (x ∷ ws) e f =
    let p = picked (eqb x 0) (zeros (take n ws)) e in
    rw p.0 (zeros_both n ws p.1 f)

zeros_none : zeros [] ≡ true
unfolding every
zeros_none = refl

pub none_speak : (cs ws : List ℕ) (a b c d : Bool) → length ws ≡ 128
    → a ≡ zeros (take (32 - 0) (drop 0 ws)) → b ≡ zeros (take (64 - 32) (drop 32 ws)) → c ≡ zeros (take (96 - 64) (drop 64 ws)) → d ≡ zeros (take (128 - 96) (drop 96 ws))
    → ((a && b) && (c && d)) ≡ true → true ≡ speech_is_sound cs ws
none_speak cs ws a b c d l p q r s u =
    let x = and_both (a && b) (c && d) u in
    let y = and_both a b x.0 in
    let z = and_both c d x.1 in
    let h : length ws ≤ 128 = omega (arith, l) in
    let last : zeros (drop 128 ws) ≡ true = rw (drop_of_length-le ws h) zeros_none in
    let w₃ : zeros (drop 96 ws) ≡ true = zeros_both 32 (drop 96 ws) (sym s ∙ z.1) (rw (drop-drop 32 96 ws) last) in
    let w₂ : zeros (drop 64 ws) ≡ true = zeros_both 32 (drop 64 ws) (sym r ∙ z.0) (rw (drop-drop 32 64 ws) w₃) in
    let w₁ : zeros (drop 32 ws) ≡ true = zeros_both 32 (drop 32 ws) (sym q ∙ y.1) (rw (drop-drop 32 32 ws) w₂) in
    sym (none_sound cs ws (zeros_both 32 ws (sym p ∙ y.0) w₁))

-- the first n, and the others
drop_first : (n m : ℕ) (l : List ℕ) → drop n (take (n + m) l) ≡ take m (drop n l)
drop_first zero m l = rw zero-add
drop_first (suc n) m [] = rw (take-nil, take-nil)
drop_first (suc n) m (x ∷ l) = rw suc-add (drop_first n m l)

speech_both : (n : ℕ) (cs ws : List ℕ) → speech_is_sound cs ws ≡ (speech_is_sound (take n cs) (take (8 * n) ws) && speech_is_sound (drop n cs) (drop (8 * n) ws))
unfolding speech_is_sound
speech_both zero cs ws = refl
speech_both (suc n) [] ws = refl
speech_both (suc n) (c ∷ cs) ws =
    let m : 8 * suc n ≡ 8 + 8 * n = omega arith in
    let a : (i : ℕ) → i < 8 → get_or (take (8 + 8 * n) ws) i 0 ≡ get_or ws i 0 = λ i h. get_or-take (8 + 8 * n) ws i 0 (omega (arith, h)) in
    let d : drop (8 + 8 * n) ws ≡ drop (8 * n) (drop 8 ws) = sym (drop-drop (8 * n) 8 ws) in
    rw (m, a 0 (omega arith), a 1 (omega arith), a 2 (omega arith), a 3 (omega arith), a 4 (omega arith), a 5 (omega arith), a 6 (omega arith), a 7 (omega arith), drop_first 8 (8 * n) ws, d, speech_both n cs (drop 8 ws))
    (by (both_first c ws))
  where
    both_first : ℕ → List ℕ → Bool
    both_first c ws = side_is_sound c (get_or ws 0 0) (get_or ws 1 0) (get_or ws 2 0) (get_or ws 3 0) && side_is_sound c (get_or ws 4 0) (get_or ws 5 0) (get_or ws 6 0) (get_or ws 7 0)

    by : (t : Bool) → let r = speech_is_sound (take n cs) (take (8 * n) (drop 8 ws)) in let s = speech_is_sound (drop n cs) (drop (8 * n) (drop 8 ws)) in
        pick t (r && s) false ≡ (pick t r false && s)
    by true = unfold pick in refl
    by false = unfold pick in refl

module _ (cs ws : List ℕ) (i : ℕ) (b q : Bool) (inv : q ≡ (b && speech_is_sound (drop (16 * i) cs) (drop (128 * i) ws))) (l : length cs ≡ 64) where
  pub all_on : (x : Bool) → i < 4
      → x ≡ speech_is_sound (take (16 * i + 16 - 16 * i) (drop (16 * i) cs)) (take (8 * (16 * i) + 128 - 8 * (16 * i)) (drop (8 * (16 * i)) ws))
      → q ≡ ((b && x) && speech_is_sound (drop (16 * (i + 1)) cs) (drop (128 * (i + 1)) ws))
  all_on x h e =
      let c : 16 * i + 16 - 16 * i ≡ 16 = omega arith in
      let a : 8 * (16 * i) ≡ 128 * i = omega arith in
      let n : 128 * i + 128 - 128 * i ≡ 128 = omega arith in
      let f : x ≡ speech_is_sound (take 16 (drop (16 * i) cs)) (take 128 (drop (128 * i) ws)) = rw (c, a, n) at e in
      let g : 16 * (i + 1) ≡ 16 * i + 16 = omega arith in
      let d : 128 * (i + 1) ≡ 128 * i + 128 = omega arith in
      inv ∙ rw (speech_both 16 (drop (16 * i) cs) (drop (128 * i) ws), ← f, drop-drop 16 (16 * i) cs, drop-drop 128 (128 * i) ws, g, d) (sym (and_assoc b x _))

  pub all_end : 4 ≤ i → b ≡ q
  unfolding speech_is_sound
  all_end h = let z : length cs ≤ 16 * i = omega arith in sym (inv ∙ rw (drop_of_length-le cs z) (no_more b))

-- ---- the parts that the code takes of a table

pub speech_by_lem : (t : List ℕ) (n a : ℕ) (x : Bool) → Sized t → n ≡ start_of (fitted t) 1 → a ≡ start_of (fitted t) 5
    → x ≡ speech_is_sound (take (n - (n - 64)) (drop (n - 64) t)) (take (length t - a) (drop a t)) → x ≡ speech_is_sound (ephemeral_contexts t) (speech_words t)
speech_by_lem t n a x s p q e = e ∙ rw (contexts_part t n (start_of (fitted t) 2) s p refl, (speech_region t).cut a (length t) q s.long)

-- The laws of the passes over a table, in the form in which `search` uses them.
use Prim.Native.Nat.{ℕ, zero, suc, ◌+◌, ◌-◌, ◌*◌, ◌/◌, ◌%◌, ◌^◌, ◌<◌, ◌≤◌}
use mathlib.Core.Path.{◌≡◌, refl, sym, ap, ◌∙◌}
use mathlib.Core.List.{List, [], ◌∷◌, ◌++◌}
use mathlib.Core.Bool.{Bool, true, false, not, ◌&&◌, and-false, false≢true, beq}
use native.Mathlib.Numerals.{add-one}
use native.Mathlib.Nat.{zero-add, add-zero, suc-add, mul_comm, pow-succ', div-div-eq-div-mul}
use native.Mathlib.Omega.{arith}
use lib.ListN.{length, get_or, set, take, drop, replicate, drop_of_length-le, length-take, length-drop, length-set, length-replicate, get_or-replicate}
use lib.Seq.{drop-cons, drop-drop, take-nil, take_all, get_or-set_same, get_or-set_other}
use lib.Dec.{ltb, leb, eqb}
use mir.Syntax.{w32}
use mir.Val.{Fits}
use borrow.Author.Tests.{le-leb, lt-leb, leb-true, leb-false, lt-ltb, ltb-true, ltb-false, eq-eqb, ne_eqb, eqb-true, eqb-false}
use Rattle.base.specs.Pick.{pick}
use Rattle.base.specs.Lists.{every, count, same}
use Rattle.megaco.proofs.Sizes.{sized_is}
use Rattle.megaco.specs.Map.{digits, marks}
use Rattle.megaco.proofs.Places.{length_digits, length_marks}
use Rattle.megaco.specs.Table.{line_terminations, ephemerals, terminations, contexts, most_lines, fitted, Sized, sized, context_words, property_words, record_words, ephemeral_contexts, ephemeral_properties, start_of, map_start, map_words, places, flow_words, is_property_word, absent_are_zero, record_is_sound, records_are_sound, flows_are_sound, speech_words, speech_is_sound, map_is_sound, sound}
use Rattle.megaco.proofs.Regions.{context_region, property_region, record_region, map_region, flow_region}
use Rattle.sound.specs.Parts.{ephemeral_is_sound, records_fit, flow_is_sound, flows_fit, parts_are_sound}

-- ---- a test of each word: b tells of the words passed

pub one_more : (b x r : Bool) → (b && pick x r false) ≡ ((b && x) && r)
unfolding pick
one_more true true r = refl
one_more true false r = refl
one_more false x r = refl

pub no_more : (b : Bool) → (b && true) ≡ b
no_more true = refl
no_more false = refl

-- ---- ephemerals: both tests of a pair of words

pair_more : (b x y e z : Bool) → (b && (pick x e false && pick y false z)) ≡ ((b && (x && not y)) && (e && z))
unfolding pick
pair_more false x y e z = refl
pair_more true false y e z = refl
pair_more true true true e z = and-false e
pair_more true true false e z = refl

module _ (cs ps : List ℕ) (i : ℕ) (b q : Bool) (inv : q ≡ (b && (every is_property_word (drop i ps) && absent_are_zero (drop i cs) (drop i ps)))) (alike : length cs ≡ length ps) where
  pub pair_on : (x : Bool) → i < length cs → x ≡ ephemeral_is_sound (get_or cs i 0) (get_or ps i 0)
      → q ≡ ((b && x) && (every is_property_word (drop (i + 1) ps) && absent_are_zero (drop (i + 1) cs) (drop (i + 1) ps)))
  unfolding every absent_are_zero ephemeral_is_sound
  pair_on x h e =
      let k : i < length ps = omega arith in
      inv ∙ rw (drop-cons cs i 0, drop-cons ps i 0, add-one, e) (pair_more b _ _ _ _)

  pub pair_end : length cs ≤ i → b ≡ q
  unfolding every absent_are_zero
  pair_end h =
      let k : length ps ≤ i = omega arith in
      sym (inv ∙ rw (drop_of_length-le cs h, drop_of_length-le ps k) (no_more b))

-- ---- records against counters

module _ (ms rs : List ℕ) (i : ℕ) (b q : Bool) (inv : q ≡ (b && records_fit ms (i + 1) (drop i rs))) where
  pub meet_on : (x : Bool) → i < length rs → x ≡ record_is_sound (get_or rs i 0) (get_or ms (i + 1) 0)
      → q ≡ ((b && x) && records_fit ms (i + 1 + 1) (drop (i + 1) rs))
  unfolding records_fit
  meet_on x h e = inv ∙ rw (drop-cons rs i 0, ← e, add-one i) (one_more b x _)

  pub meet_end : length rs ≤ i → b ≡ q
  unfolding records_fit
  meet_end h = sym (inv ∙ rw (drop_of_length-le rs h) (no_more b))

-- ---- counters

-- how many counters there are: contexts 0 to 128
abbrev counted : ℕ
counted = contexts + 1

-- one word more is counted where it belongs
count_next : (c i : ℕ) (l : List ℕ) → i < length l → count c (take (suc i) l) ≡ count c (take i l) + pick (eqb (get_or l i 0) c) 1 0
unfolding count
count_next c i [] h = absurd (omega arith)
count_next c zero (x ∷ l) h = omega arith
count_next c (suc i) (x ∷ l) h = omega (arith, count_next c i l (omega arith))

one_at_most : (b : Bool) → pick b 1 0 ≤ 1
unfolding pick
one_at_most true = omega arith
one_at_most false = omega arith

count_at_most : (c i : ℕ) (l : List ℕ) → count c (take i l) ≤ i
unfolding count
count_at_most c zero l = omega arith
count_at_most c (suc i) [] = omega arith
count_at_most c (suc i) (x ∷ l) = omega (arith, one_at_most (eqb x c), count_at_most c i l)

-- counter c holds how many of the first i words are c, null not counted, and none of them is over 128
pub record Counting (row counters : List ℕ) (i : ℕ) : Type 0 where
  pub long : length counters ≡ counted
  pub counts : (c : ℕ) → 0 < c → c < counted → get_or counters c 0 ≡ count c (take i row)
  pub fits : every (λ w. leb w contexts) row ≡ every (λ w. leb w contexts) (drop i row)

pub counting_start : (row : List ℕ) → Counting row (replicate counted 0) 0
unfolding count
counting_start row = record { long = length-replicate {A = ℕ} counted 0; counts = λ c p h. get_or-replicate {A = ℕ} counted c 0 0 h; fits = refl }

meet_counted : (cs ms : List ℕ) (c : ℕ) (rs : List ℕ) → ((k : ℕ) → 0 < k → k < counted → get_or ms k 0 ≡ count k cs) → 0 < c → c + length rs ≤ counted
    → records_fit ms c rs ≡ records_are_sound cs c rs
unfolding records_fit records_are_sound
meet_counted cs ms c [] f p h = refl
meet_counted cs ms c (r ∷ rs) f p h =
    let here : get_or ms c 0 ≡ count c cs = f c p (omega arith) in
    let rest : records_fit ms (c + 1) rs ≡ records_are_sound cs (c + 1) rs = meet_counted cs ms (c + 1) rs f (omega arith) (omega arith) in
    rw (here, rest)

flows_counted : (cs ms : List ℕ) (c : ℕ) (fs : List ℕ) → ((k : ℕ) → 0 < k → k < counted → get_or ms k 0 ≡ count k cs) → 0 < c → 2 * c + length fs ≤ 2 * counted
    → flows_fit ms c fs ≡ flows_are_sound cs c fs
unfolding flows_fit flows_are_sound flow_is_sound
flows_counted cs ms c [] f p h = refl
flows_counted cs ms c (low ∷ []) f p h = refl
flows_counted cs ms c (low ∷ high ∷ fs) f p h =
    let here : get_or ms c 0 ≡ count c cs = f c p (omega arith) in
    let rest : flows_fit ms (c + 1) fs ≡ flows_are_sound cs (c + 1) fs = flows_counted cs ms (c + 1) fs f (omega arith) (omega arith) in
    rw (here, rest)

module _ (row counters : List ℕ) (i : ℕ) (k : Counting row counters i) where
  pub counter_fits : (w : ℕ) → 0 < w → w ≤ contexts → i < length row → length row ≤ 65536 → Fits w32 (get_or counters w 0 + 1)
  counter_fits w p h l b = record { fits = omega (arith, k.counts w p (omega arith), count_at_most w i row) }

  -- null is passed over
  counting_null : i < length row → get_or row i 0 ≤ 0 → Counting row counters (i + 1)
  unfolding every pick
  counting_null h z =
      record {
        long = k.long;
        counts = λ c p l. same c p l;
        fits = k.fits ∙ rw (drop-cons row i 0, le-leb (get_or row i 0) contexts (omega arith), add-one);
      }
    where
      same : (c : ℕ) → 0 < c → c < counted → get_or counters c 0 ≡ count c (take (i + 1) row)
      same c p l =
          let e : eqb (get_or row i 0) c ≡ false = ne_eqb (get_or row i 0) c (λ q. omega arith) in
          let n : count c (take (suc i) row) ≡ count c (take i row) + 0 = count_next c i row h ∙ rw e in
          rw (add-one i, n, add-zero) (k.counts c p l)

  pub counting_on : i < length row → 0 < get_or row i 0 → get_or row i 0 ≤ contexts
      → Counting row (set counters (get_or row i 0) (get_or counters (get_or row i 0) 0 + 1)) (i + 1)
  unfolding every pick
  counting_on h p b =
      record {
        long = length-set counters w (get_or counters w 0 + 1) ∙ k.long;
        counts = λ c o l. next c o l (eqb w c) refl;
        fits = k.fits ∙ rw (drop-cons row i 0, le-leb w contexts b, add-one);
      }
    where
      w : ℕ
      w = get_or row i 0

      next : (c : ℕ) → 0 < c → c < counted → (t : Bool) → eqb w c ≡ t → get_or (set counters w (get_or counters w 0 + 1)) c 0 ≡ count c (take (i + 1) row)
      next c o l true e =
          let n : count c (take (suc i) row) ≡ count c (take i row) + 1 = count_next c i row h ∙ rw e in
          let s : w ≡ c = eqb-true w c e in
          let a : w < length counters = omega (arith, k.long) in
          rw (add-one i, n, ← s) (get_or-set_same counters w (get_or counters w 0 + 1) 0 a ∙ ap (λ (x : ℕ). x + 1) (k.counts w p (omega arith)))
      next c o l false e =
          let n : count c (take (suc i) row) ≡ count c (take i row) + 0 = count_next c i row h ∙ rw e in
          rw (add-one i, n, add-zero) (get_or-set_other counters w c (get_or counters w 0 + 1) 0 (λ d. eqb-false w c e (sym d)) ∙ k.counts c o l)

  pub counting_no : (q : Bool) → i < length row → contexts < get_or row i 0 → false ≡ (every (λ w. leb w contexts) row && q)
  unfolding every pick
  counting_no q h b = let e : every (λ w. leb w contexts) row ≡ false = k.fits ∙ rw (drop-cons row i 0, lt-leb (get_or row i 0) contexts b) in rw e

  pub counting_end : (r : Bool) (rs fs : List ℕ) → length row ≤ i → length rs ≤ contexts → length fs ≡ 2 * contexts
      → r ≡ (records_fit counters 1 rs && flows_fit counters 1 fs) → r ≡ (every (λ w. leb w contexts) row && (records_are_sound row 1 rs && flows_are_sound row 1 fs))
  unfolding every
  counting_end r rs fs h l b e =
      let t : every (λ w. leb w contexts) row ≡ true = k.fits ∙ rw (drop_of_length-le row h) in
      let a : take i row ≡ row = take_all i row h in
      let m : records_fit counters 1 rs ≡ records_are_sound row 1 rs = meet_counted row counters 1 rs (λ c p b. k.counts c p b ∙ ap (count c) a) (omega arith) (omega arith) in
      let f : flows_fit counters 1 fs ≡ flows_are_sound row 1 fs = flows_counted row counters 1 fs (λ c p b. k.counts c p b ∙ ap (count c) a) (omega arith) (omega arith) in
      rw t (e ∙ rw (m, f))

-- both of two tests in turn
pub picked : (t r : Bool) → pick t r false ≡ true → (t ≡ true) × (r ≡ true)
unfolding pick
picked true r e = (refl, e)
picked false r e = absurd (false≢true e)

-- n nulls are passed over
nulls : (row counters : List ℕ) (n i : ℕ) → i + n ≤ length row → every (λ (w : ℕ). eqb w 0) (take n (drop i row)) ≡ true → Counting row counters i → Counting row counters (i + n)
unfolding every
nulls row counters zero i h e k = rw (add-zero i) k
nulls row counters (suc n) i h e k =
    let f : every (λ (w : ℕ). eqb w 0) (get_or row i 0 ∷ take n (drop (suc i) row)) ≡ true = rw (drop-cons row i 0 (omega arith)) at e in
    let p = picked (eqb (get_or row i 0) 0) (every (λ (w : ℕ). eqb w 0) (take n (drop (suc i) row))) f in
    let m : i + suc n ≡ suc i + n = omega arith in
    let s : Counting row counters (suc i) = rw (add-one i) at (counting_null row counters i k (omega arith) (omega (arith, eqb-true (get_or row i 0) 0 p.0))) in
    rw m (nulls row counters n (suc i) (omega arith) p.1 s)

pub counting_nulls : (row counters : List ℕ) (i r : ℕ) → Counting row counters i → i < r → r ≤ length row → every (λ (w : ℕ). eqb w 0) (take (r - i) (drop i row)) ≡ true
    → Counting row counters r
counting_nulls row counters i r k h l e =
    let m : r ≡ i + (r - i) = omega arith in
    rw m (nulls row counters (r - i) i (omega arith) e k)

-- one null, and as many as are tested at once
pub null_one : (row : List ℕ) (i : ℕ) → i < length row → get_or row i 0 ≤ 0 → every (λ (w : ℕ). eqb w 0) (take (i + 1 - i) (drop i row)) ≡ true
unfolding every pick
null_one row i h z =
    let o : i + 1 - i ≡ 1 = omega arith in
    rw (o, drop-cons row i 0 h, eq-eqb (get_or row i 0) 0 (omega arith))

pub null_all : (row : List ℕ) (i : ℕ) (t : Bool) → t ≡ every (λ (w : ℕ). eqb w 0) (take (i + 32 - i) (drop i row)) → t ≡ true → every (λ (w : ℕ). eqb w 0) (take (i + 32 - i) (drop i row)) ≡ true
null_all row i t e u = sym e ∙ u

-- the test of a record, as the code makes it
alike : (x y : Bool) → beq x y ≡ pick x y (not y)
unfolding pick
alike true true = refl
alike true false = refl
alike false true = refl
alike false false = refl

pub record_by : (r m : ℕ) → (leb r 32 && beq (eqb m 0) (eqb r 0) && leb m 8) ≡ record_is_sound r m
unfolding record_is_sound
record_by r m = rw alike

-- ---- the whole table

every_both : (p : ℕ → Bool) (n : ℕ) (l : List ℕ) → every p l ≡ (every p (take n l) && every p (drop n l))
unfolding every pick
every_both p zero l = refl
every_both p (suc n) [] = refl
every_both p (suc n) (x ∷ l) = rw (every_both p n l) (and_pick (p x) _ _)
  where
    and_pick : (a b c : Bool) → pick a (b && c) false ≡ (pick a b false && c)
    and_pick true b c = refl
    and_pick false b c = refl

-- the tests in the order of the passes, and in the order of the definition
arrange : (e r l p z : Bool) → ((e && r) && l && (p && z)) ≡ (e && (l && p) && z && r)
arrange false r l p z = refl
arrange true false l p z = sym (and-false (true && (l && p) && z))
arrange true true false p z = refl
arrange true true true false z = refl
arrange true true true true false = refl
arrange true true true true true = refl

arranged : (a b c e r l p z w : Bool) → a ≡ (e && r) → b ≡ l → c ≡ (p && z) → w ≡ (l && p) → (a && b && c) ≡ (e && w && z && r)
arranged a b c e r l p z w f g h k = rw (f, g, h, k) (arrange e r l p z)

-- the map before the flows
flows_last : (e p z r f m : Bool) → (e && p && z && (r && f) && m) ≡ (e && p && z && r && m && f)
flows_last false p z r f m = refl
flows_last true false z r f m = refl
flows_last true true false r f m = refl
flows_last true true true false f m = refl
flows_last true true true true false m = sym (and-false m)
flows_last true true true true true m = sym (no_more m)

same_low : (m : ℕ) → leb 95 (terminations m) ≡ ltb 0 m
same_low m = by (ltb 0 m) refl
  where
    by : (b : Bool) → ltb 0 m ≡ b → leb 95 (terminations m) ≡ b
    by true e = le-leb 95 (terminations m) (omega (arith, ltb-true 0 m e))
    by false e = lt-leb 95 (terminations m) (omega (arith, ltb-false 0 m e))

same_high : (m : ℕ) → leb (terminations m) 560 ≡ leb m most_lines
same_high m = by (leb m most_lines) refl
  where
    by : (b : Bool) → leb m most_lines ≡ b → leb (terminations m) 560 ≡ b
    by true e = le-leb (terminations m) 560 (omega (arith, leb-true m most_lines e))
    by false e = lt-leb (terminations m) 560 (omega (arith, leb-false m most_lines e))

ephemeral_contexts_lem : (t : List ℕ) → ephemeral_contexts t ≡ take ephemerals (drop (line_terminations (fitted t)) t)
unfolding ephemeral_contexts
ephemeral_contexts_lem t =
    let l : ℕ = line_terminations (fitted t) in
    let e : terminations (fitted t) - l ≡ ephemerals = omega arith in
    sym (rw e at ((context_region t).rest l (terminations (fitted t)) l (sym (zero-add l)) refl (omega arith)))

-- the parts that the code takes of a table: the properties start at n, the records at r, the map at m, the flows at f
module _ (t : List ℕ) (n r : ℕ) (s : Sized t) (p : n ≡ start_of (fitted t) 1) (q : r ≡ start_of (fitted t) 2) where
  lines_end : n - 64 ≡ line_terminations (fitted t)
  lines_end = omega arith

  pub contexts_part : take (n - (n - 64)) (drop (n - 64) t) ≡ ephemeral_contexts t
  contexts_part = let e : n - (n - 64) ≡ 64 = omega arith in rw (e, lines_end) (sym (ephemeral_contexts_lem t))

  properties_part : take (r - (n + (n - 64))) (drop (n + (n - 64)) t) ≡ ephemeral_properties t
  unfolding ephemeral_properties
  properties_part = (property_region t).rest (n + (n - 64)) r (line_terminations (fitted t)) (rw (lines_end, p)) q (omega arith)

  lines_part : take (n + (n - 64) - n) (drop n t) ≡ take (line_terminations (fitted t)) (property_words t)
  lines_part = (property_region t).front n (n + (n - 64)) (line_terminations (fitted t)) p (rw lines_end) (omega arith)

  -- as many context words of ephemerals as properties
  pub even_parts : length (take (n - (n - 64)) (drop (n - 64) t)) ≡ length (take (r - (n + (n - 64))) (drop (n + (n - 64)) t))
  unfolding ephemeral_contexts ephemeral_properties
  even_parts = rw (contexts_part, properties_part) (simp length-drop (omega (arith, (context_region t).long s.long, (property_region t).long s.long)))

  pub parts_by_lem : (m f g : ℕ) (a b c : Bool) → m ≡ start_of (fitted t) 3 → f ≡ start_of (fitted t) 4 → g ≡ start_of (fitted t) 5
      → a ≡ (every (λ w. leb w contexts) (take (n - 0) (drop 0 t)) && (records_are_sound (take (n - 0) (drop 0 t)) 1 (take (m - r) (drop r t)) && flows_are_sound (take (n - 0) (drop 0 t)) 1 (take (g - f) (drop f t))))
      → b ≡ every is_property_word (take (n + (n - 64) - n) (drop n t))
      → c ≡ (every is_property_word (take (r - (n + (n - 64))) (drop (n + (n - 64)) t)) && absent_are_zero (take (n - (n - 64)) (drop (n - 64) t)) (take (r - (n + (n - 64))) (drop (n + (n - 64)) t)))
      → (a && b && c) ≡ parts_are_sound t
  unfolding parts_are_sound
  parts_by_lem m f g a b c u v w x y z =
      arranged a b c
      (every (λ w. leb w contexts) (context_words t))
      (records_are_sound (context_words t) 1 (record_words t) && flows_are_sound (context_words t) 1 (flow_words t))
      (every is_property_word (take (line_terminations (fitted t)) (property_words t)))
      (every is_property_word (ephemeral_properties t))
      (absent_are_zero (ephemeral_contexts t) (ephemeral_properties t))
      (every is_property_word (property_words t))
      (x ∙ rw ((context_region t).cut 0 n refl p, (record_region t).cut r m q u, (flow_region t).cut f g v w))
      (y ∙ rw lines_part) (z ∙ rw (contexts_part, properties_part)) whole
    where
      whole : every is_property_word (property_words t) ≡ (every is_property_word (take (line_terminations (fitted t)) (property_words t)) && every is_property_word (ephemeral_properties t))
      whole = unfold ephemeral_properties in every_both is_property_word (line_terminations (fitted t)) (property_words t)

module _ (t : List ℕ) where
  pub sound_by : (x r m s : Bool) → x ≡ sized t → x ≡ true → r ≡ parts_are_sound t → m ≡ map_is_sound t → s ≡ speech_is_sound (ephemeral_contexts t) (speech_words t) → (r && m && s) ≡ sound t
  unfolding sound parts_are_sound
  sound_by x r m s e h k f g = rw (k, f, g, ← e, h) (ap (λ (b : Bool). b && speech_is_sound (ephemeral_contexts t) (speech_words t)) (flows_last (every (λ w. leb w contexts) (context_words t)) _ _ _ _ _))

  pub unsound : (x : Bool) → x ≡ sized t → x ≡ false → false ≡ sound t
  unfolding sound
  unsound x e h = rw (← e, h)

  -- the size, as the code tests it
  pub sized_by : (n e : ℕ) → n ≡ terminations (fitted t) → e ≡ start_of (fitted t) 6 → (leb 95 n && leb n 560 && eqb (length t) e) ≡ sized t
  unfolding sized
  sized_by n e p q = let m : ℕ = fitted t in rw (p, q, same_low m, same_high m)

  pub sized_facts : (x : Bool) → x ≡ sized t → x ≡ true → Sized t
  sized_facts x e h = sized_is t (sym e ∙ h)

-- ---- the map

-- a digit of the map against a context word
digit_by : (d x : ℕ) (z : Bool) → d < 2 → beq (eqb d 1) (not z) ≡ eqb d (pick z 0 1)
unfolding pick
digit_by d x true h = by (eqb d 0) refl
  where
    by : (b : Bool) → eqb d 0 ≡ b → beq (eqb d 1) false ≡ b
    by true e = rw (ne_eqb d 1 (λ q. omega (arith, eqb-true d 0 e)))
    by false e = let o : d ≡ 1 = omega (arith, eqb-false d 0 e) in rw (eq-eqb d 1 o)
digit_by d x false h = beq_true (eqb d 1)
  where
    beq_true : (b : Bool) → beq b true ≡ b
    beq_true true = refl
    beq_true false = refl

pub digit_sound : (w b x : ℕ) → beq (eqb (w / 2 ^ b % 2) 1) (not (eqb x 0)) ≡ eqb (w / 2 ^ b % 2) (pick (eqb x 0) 0 1)
digit_sound w b x = digit_by (w / 2 ^ b % 2) x (eqb x 0) (omega arith)

-- half of the map: good tells of the digits passed
halved : (w i : ℕ) → w / 2 ^ i / 2 ≡ w / 2 ^ suc i
halved w i = div-div-eq-div-mul w (2 ^ i) 2 ∙ ap (λ (m : ℕ). w / m) (mul_comm (2 ^ i) 2 ∙ sym (pow-succ' 2 i))

module _ (row : List ℕ) (w i : ℕ) (b q : Bool) (inv : q ≡ (b && same (digits (32 - i) (w / 2 ^ i)) (marks (drop i row)))) (l : length row ≡ 32) where
  pub half_on : (x : Bool) → i < length row → x ≡ eqb (w / 2 ^ i % 2) (pick (eqb (get_or row i 0) 0) 0 1)
      → q ≡ ((b && x) && same (digits (32 - (i + 1)) (w / 2 ^ (i + 1))) (marks (drop (i + 1) row)))
  unfolding digits marks same
  half_on x h e =
      let k : 32 - i ≡ suc (32 - (i + 1)) = omega arith in
      inv ∙ rw (k, drop-cons row i 0, halved w i, ← e, add-one i) (one_more b x _)

  pub half_end : length row ≤ i → b ≡ q
  unfolding digits marks same
  half_end h =
      let k : 32 - i ≡ 0 = omega arith in
      sym (inv ∙ rw (k, drop_of_length-le row h) (no_more b))

pub half_start : (row : List ℕ) (w : ℕ) → same (digits 32 w) (marks row) ≡ (true && same (digits (32 - 0) (w / 2 ^ 0)) (marks (drop 0 row)))
half_start row w = let e : w / 2 ^ 0 ≡ w = omega arith in rw e

-- two halves
marks_part : (n m : ℕ) (l : List ℕ) → marks (take (n + m) l) ≡ marks (take n l) ++ marks (take m (drop n l))
unfolding marks
marks_part zero m l = rw zero-add
marks_part (suc n) m [] = rw (take-nil, take-nil)
marks_part (suc n) m (x ∷ l) = rw (suc-add, marks_part n m l)

same_part : (a b c d : List ℕ) → length a ≡ length b → same (a ++ c) (b ++ d) ≡ (same a b && same c d)
unfolding same pick
same_part [] [] c d l = refl
same_part [] (y ∷ b) c d l = absurd (omega (arith, l))
same_part (x ∷ a) [] c d l = absurd (omega (arith, l))
same_part (x ∷ a) (y ∷ b) c d l = by (eqb x y) (same_part a b c d (omega (arith, l)))
  where
    by : (t : Bool) → same (a ++ c) (b ++ d) ≡ (same a b && same c d) → pick t (same (a ++ c) (b ++ d)) false ≡ (pick t (same a b) false && same c d)
    by true e = e
    by false e = refl

-- the words of the map have 32 bits
two_narrow : (l : List ℕ) → length l ≡ 2 → get_or l 0 0 < 2 ^ 32 → get_or l 1 0 < 2 ^ 32 → every (λ w. ltb w (2 ^ 32)) l ≡ true
unfolding every pick
two_narrow [] e h k = absurd (omega (arith, e))
two_narrow (x ∷ []) e h k = absurd (omega (arith, e))
two_narrow (x ∷ y ∷ []) e h k = rw (lt-ltb x (2 ^ 32) h, lt-ltb y (2 ^ 32) k)
two_narrow (x ∷ y ∷ z ∷ l) e h k = absurd (omega (arith, e))

pub map_by : (t : List ℕ) (n a u v : ℕ) (x y : Bool) → Sized t → n ≡ terminations (fitted t) → a ≡ start_of (fitted t) 3
    → u ≡ get_or t a 0 → v ≡ get_or t (a + 1) 0 → u < 2 ^ 32 → v < 2 ^ 32
    → x ≡ same (digits 32 u) (marks (take (n - 32 - (n - 64)) (drop (n - 64) t))) → y ≡ same (digits 32 v) (marks (take (n - (n - 32)) (drop (n - 32) t)))
    → (x && y) ≡ map_is_sound t
unfolding map_is_sound places
map_by t n a u v x y s e o p q h k f g =
    let b : ℕ = map_start (fitted t) in
    let l : ℕ = line_terminations (fitted t) in
    let e₂ : n - 32 - (n - 64) ≡ 32 = omega arith in
    let e₃ : n - (n - 32) ≡ 32 = omega arith in
    let e₄ : n - 64 ≡ l = omega arith in
    let e₅ : n - 32 ≡ l + 32 = omega arith in
    let u₁ : u ≡ get_or t b 0 = p ∙ rw o in
    let v₁ : v ≡ get_or t (b + 1) 0 = q ∙ rw o in
    let low : get_or (map_words t) 0 0 ≡ u = (map_region t).from 0 (omega arith) ∙ rw add-zero (sym u₁) in
    let high : get_or (map_words t) 1 0 ≡ v = (map_region t).from 1 (omega arith) ∙ sym v₁ in
    let w : every (λ z. ltb z (2 ^ 32)) (map_words t) ≡ true = two_narrow (map_words t) ((map_region t).long s.long) (rw low h) (rw high k) in
    let m : marks (ephemeral_contexts t) ≡ marks (take 32 (drop l t)) ++ marks (take 32 (drop (l + 32) t)) =
    ap marks (ephemeral_contexts_lem t) ∙ marks_part 32 32 (drop l t) ∙ ap (λ (z : List ℕ). marks (take 32 (drop l t)) ++ marks (take 32 z)) (drop-drop 32 l t) in
    let d : length (digits 32 (get_or t b 0)) ≡ length (marks (take 32 (drop l t))) =
    length_digits 32 (get_or t b 0) ∙ sym (length_marks (take 32 (drop l t)) ∙ long) in
    let x₁ : x ≡ same (digits 32 (get_or t b 0)) (marks (take 32 (drop l t))) = f ∙ rw (e₂, e₄, u₁) in
    let y₁ : y ≡ same (digits 32 (get_or t (b + 1) 0)) (marks (take 32 (drop (l + 32) t))) = g ∙ rw (e₃, e₅, v₁) in
    rw (w, m, same_part _ _ (digits 32 (get_or t (b + 1) 0)) (marks (take 32 (drop (l + 32) t))) d, x₁, y₁)
  where
    long : length (take 32 (drop (line_terminations (fitted t)) t)) ≡ 32
    long = simp (length-take, length-drop) (omega (arith, s.long))

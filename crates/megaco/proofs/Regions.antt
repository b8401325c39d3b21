-- The list of regions: where each starts and its words stand, and the parts of a table that are cut at those places.
use Prim.Native.Nat.{ℕ, zero, suc, ◌+◌, ◌-◌, ◌≤◌, ◌<◌, min}
use mathlib.Core.Path.{◌≡◌, refl, sym, ap, ◌∙◌}
use mathlib.Core.Bool.{true}
use mathlib.Core.List.{List, [], ◌∷◌}
use lib.ListN.{length, get_or, take, drop, length-take, length-drop}
use lib.Seq.{get_or-take, get_or-drop, take-nil, take-take, drop-drop}
use native.Mathlib.Nat.{zero-add, suc-add, sub-zero, zero-min, min-zero, suc-min-suc}
use native.Mathlib.Omega.{arith}
use Rattle.base.specs.Pick.{pick}
use Rattle.base.specs.Lists.{count}
use Rattle.megaco.specs.Table.{terminations, regions, onward, total, start_of, place, words, fitted, region_words, context_words, property_words, record_words, map_words, flow_words, speech_words, known, members, place_in}

-- ---- any list of regions

pub total_is : (rs : List ℕ) → total rs ≡ onward 0 rs
total_is [] = refl
total_is (r ∷ rs) = rw zero-add

-- a place is its region's start and the word there
onward_place : (k : ℕ) (rs : List ℕ) (a i : ℕ) → onward a (take k rs) + i ≡ a + place k rs i
onward_place zero rs a i = refl
onward_place (suc k) [] a i = refl
onward_place (suc k) (r ∷ rs) a i = omega (arith, onward_place k rs (a + r) i)

pub place_is : (k : ℕ) (rs : List ℕ) (i : ℕ) → total (take k rs) + i ≡ place k rs i
place_is k rs i = omega (arith, total_is (take k rs), onward_place k rs 0 i)

-- the next region starts behind the last word
onward_next : (k : ℕ) (rs : List ℕ) (a : ℕ) → onward a (take (suc k) rs) ≡ onward a (take k rs) + get_or rs k 0
onward_next zero [] a = omega arith
onward_next zero (r ∷ rs) a = refl
onward_next (suc k) [] a = omega arith
onward_next (suc k) (r ∷ rs) a = onward_next k rs (a + r)

pub next_start : (k : ℕ) (rs : List ℕ) → total (take (suc k) rs) ≡ total (take k rs) + get_or rs k 0
next_start k rs = omega (arith, total_is (take (suc k) rs), total_is (take k rs), onward_next k rs 0)

-- each starts within the whole
pub onward_on : (rs : List ℕ) (a : ℕ) → a ≤ onward a rs
onward_on [] a = omega arith
onward_on (r ∷ rs) a = omega (arith, onward_on rs (a + r))

onward_within : (k : ℕ) (rs : List ℕ) (a : ℕ) → onward a (take k rs) ≤ onward a rs
onward_within zero rs a = onward_on rs a
onward_within (suc k) [] a = omega arith
onward_within (suc k) (r ∷ rs) a = onward_within k rs (a + r)

pub start_within : (k : ℕ) (rs : List ℕ) → total (take k rs) ≤ total rs
start_within k rs = omega (arith, total_is (take k rs), total_is rs, onward_within k rs 0)

-- ---- a region's words: how many there are, where each stands, and the parts that are cut from place a to place e

-- the last of the first
drop_take : (n m : ℕ) (l : List ℕ) → drop n (take (n + m) l) ≡ take m (drop n l)
drop_take zero m l = rw zero-add
drop_take (suc n) m [] = rw (take-nil, take-nil)
drop_take (suc n) m (x ∷ l) = rw suc-add (drop_take n m l)

-- the first of the first
take_first : (i n : ℕ) (l : List ℕ) → take i (take n l) ≡ take (min i n) l
take_first zero n l = rw zero-min
take_first (suc i) zero l = rw min-zero
take_first (suc i) (suc n) [] = rw (suc-min-suc, take-nil)
take_first (suc i) (suc n) (x ∷ l) = rw suc-min-suc (ap (λ (m : List ℕ). x ∷ m) (take_first i n l))

module _ (k : ℕ) (rs t : List ℕ) where
  abbrev part : List ℕ
  part = take (get_or rs k 0) (drop (total (take k rs)) t)

  part_long : length t ≡ total rs → length part ≡ get_or rs k 0
  part_long l = simp (length-take, length-drop) (omega (arith, l, next_start k rs, start_within (suc k) rs))

  part_few : length part ≤ get_or rs k 0
  part_few = simp length-take (omega arith)

  part_from : (i : ℕ) → i < get_or rs k 0 → get_or part i 0 ≡ get_or t (total (take k rs) + i) 0
  part_from i h = get_or-take (get_or rs k 0) (drop (total (take k rs)) t) i 0 h ∙ get_or-drop (total (take k rs)) t i 0

  part_cut : (a e : ℕ) → a ≡ total (take k rs) → e ≡ total (take (suc k) rs) → take (e - a) (drop a t) ≡ part
  part_cut a e p q = let d : e - a ≡ get_or rs k 0 = omega (arith, p, q, next_start k rs) in rw (d, p)

  part_front : (a e i : ℕ) → a ≡ total (take k rs) → e ≡ a + i → i ≤ get_or rs k 0 → take (e - a) (drop a t) ≡ take i part
  part_front a e i p q h = let d : e - a ≡ i = omega (arith, q) in rw (d, p) (sym (take-take i (get_or rs k 0) (drop (total (take k rs)) t) h))

  part_rest : (a e i : ℕ) → a ≡ total (take k rs) + i → e ≡ total (take (suc k) rs) → i ≤ get_or rs k 0 → take (e - a) (drop a t) ≡ drop i part
  part_rest a e i p q h =
      let m : ℕ = get_or rs k 0 - i in
      let d : e - a ≡ m = omega (arith, p, q, next_start k rs) in
      let o : get_or rs k 0 ≡ i + m = omega (arith, h) in
      let u : List ℕ = drop (total (take k rs)) t in
      rw (d, p) (sym (ap (λ (x : ℕ). drop i (take x u)) o ∙ drop_take i m u ∙ ap (take m) (drop-drop i (total (take k rs)) t)))

-- ws are the words of region k in a table t of n lines
pub record Region (n k : ℕ) (t ws : List ℕ) : Type 0 where
  pub long : length t ≡ words n → length ws ≡ get_or (regions n) k 0
  pub few : length ws ≤ get_or (regions n) k 0
  pub from : (i : ℕ) → i < get_or (regions n) k 0 → get_or ws i 0 ≡ get_or t (start_of n k + i) 0
  pub stands : (i : ℕ) → i < get_or (regions n) k 0 → get_or ws i 0 ≡ get_or t (place k (regions n) i) 0
  -- all of them, the first i, and those from word i on
  pub cut : (a e : ℕ) → a ≡ start_of n k → e ≡ start_of n (suc k) → take (e - a) (drop a t) ≡ ws
  pub front : (a e i : ℕ) → a ≡ start_of n k → e ≡ a + i → i ≤ get_or (regions n) k 0 → take (e - a) (drop a t) ≡ take i ws
  pub rest : (a e i : ℕ) → a ≡ start_of n k + i → e ≡ start_of n (suc k) → i ≤ get_or (regions n) k 0 → take (e - a) (drop a t) ≡ drop i ws

pub region : (n k : ℕ) (t : List ℕ) → Region n k t (region_words n k t)
region n k t =
    let rs : List ℕ = regions n in
    record {
      long = part_long k rs t;
      few = part_few k rs t;
      from = part_from k rs t;
      stands = λ i h. part_from k rs t i h ∙ ap (λ (a : ℕ). get_or t a 0) (place_is k rs i);
      cut = part_cut k rs t;
      front = part_front k rs t;
      rest = part_rest k rs t;
    }

-- ---- the regions of a table

module _ (t : List ℕ) where
  pub context_region : Region (fitted t) 0 t (context_words t)
  unfolding context_words
  context_region = region (fitted t) 0 t

  pub property_region : Region (fitted t) 1 t (property_words t)
  unfolding property_words
  property_region = region (fitted t) 1 t

  pub record_region : Region (fitted t) 2 t (record_words t)
  unfolding record_words
  record_region = region (fitted t) 2 t

  pub map_region : Region (fitted t) 3 t (map_words t)
  unfolding map_words
  map_region = region (fitted t) 3 t

  pub flow_region : Region (fitted t) 4 t (flow_words t)
  unfolding flow_words
  flow_region = region (fitted t) 4 t

  pub speech_region : Region (fitted t) 5 t (speech_words t)
  unfolding speech_words
  speech_region = region (fitted t) 5 t

  -- the contexts come first, and who stands in one is counted there
  contexts_first : context_words t ≡ take (terminations (fitted t)) t
  contexts_first = sym (rw sub-zero at (context_region.cut 0 (terminations (fitted t)) refl refl))

  pub members_first : (c : ℕ) → members c t ≡ count c (take (terminations (fitted t)) t)
  unfolding members
  members_first c = ap (count c) contexts_first

  pub place_first : (c i : ℕ) → known c ≡ true → place_in c i t ≡ count c (take (min i (terminations (fitted t))) t)
  unfolding place_in pick
  place_first c i k = rw (k, contexts_first, take_first i (terminations (fitted t)) t)

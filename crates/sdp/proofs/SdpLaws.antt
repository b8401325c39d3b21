-- Laws of the SDP reader, in the form in which `search` uses them.
use mir.Val.{Fits}
use mir.Syntax.{w32, w64}
use Prim.Native.Nat.{ℕ, ◌^◌, ◌+◌, ◌*◌, ◌-◌, ◌<◌, ◌≤◌}
use mathlib.Core.Path.{◌≡◌, refl, sym, ◌∙◌}
use Rattle.std.specs.List.{slice_split, onto_first, list_all, fold}
use Rattle.std.specs.Cmp.Lexicographic.{pointwise}
use mathlib.Core.Bool.{Bool, true, false, cond, ◌&&◌}
use mathlib.Core.List.{List, [], ◌∷◌, ◌++◌}
use native.Mathlib.Omega.{arith}
use lib.ListN.{length, take, drop, length-drop}
use lib.Dec.{eqb}
use borrow.Author.Tests.{eq-eqb, ne_eqb, eqb-true, eqb-false}
use Rattle.base.specs.Pick.{pick}
use Rattle.base.proofs.TestLaws.{clash, pick_both}
use Rattle.base.specs.Lists.{every, same}
use Rattle.megaco.specs.Bytes.{is_line_end}
use Rattle.megaco.proofs.SdpSizes.{part_least, pair_least}
use Rattle.megaco.specs.Sdp.{is_skipped, on_first, lines_of, begins, given_at, dotted_part_at, dotted_pair_at, sdp_line_of, sdp_step, stage_after}
use Rattle.protocol.specs.Types.{Number, number, SdpStage, NoLine}

-- ---- given bytes

eqb_turned : (a b : ℕ) → eqb a b ≡ eqb b a
eqb_turned a b = go (eqb a b) refl
  where
    go : (t : Bool) → eqb a b ≡ t → t ≡ eqb b a
    go true e = let h : a ≡ b = eqb-true a b e in sym (eq-eqb b a (sym h))
    go false e = let h : a ≡ b → ⊥ = eqb-false a b e in sym (ne_eqb b a (λ k. h (sym k)))

-- what the library's `starts_with` says is `begins`
pub starts_begins : (form s : List ℕ) → pointwise eqb form (take (length form) s) ≡ begins form s
unfolding begins pick
starts_begins [] s = refl
starts_begins (x ∷ xs) [] = refl
starts_begins (x ∷ xs) (b ∷ s) = rw (starts_begins xs s, eqb_turned x b) (by (eqb b x))
  where
    by : (t : Bool) → (t && begins xs s) ≡ pick t (begins xs s) false
    by true = refl
    by false = refl

-- and what its `==` says is `same`
pub equal_same : (a b : List ℕ) → pointwise eqb a b ≡ same a b
unfolding same pick
equal_same [] [] = refl
equal_same [] (y ∷ ys) = refl
equal_same (x ∷ xs) [] = refl
equal_same (x ∷ xs) (y ∷ ys) = rw (equal_same xs ys) (by (eqb x y))
  where
    by : (t : Bool) → (t && same xs ys) ≡ pick t (same xs ys) false
    by true = refl
    by false = refl

begins_fits : (form s : List ℕ) → begins form s ≡ true → length form ≤ length s
unfolding begins
begins_fits [] s e = omega arith
begins_fits (x ∷ xs) [] e = absurd (clash (sym e))
begins_fits (x ∷ xs) (b ∷ s) e = let h : length xs ≤ length s = begins_fits xs s (pick_both (eqb b x) (begins xs s) e).1 in omega arith

-- bytes that stand at a place end within the text
pub given_fits : (form s : List ℕ) (at n : ℕ) (x : Bool) → x ≡ given_at form s at → x ≡ true → length form ≡ n → 0 < n → length s < 2 ^ 64 → Fits w64 (at + n)
unfolding given_at
given_fits form s at n x e t k h l =
    let f : length form ≤ length (drop at s) = begins_fits form (drop at s) (sym e ∙ t) in
    let m : length (drop at s) ≡ length s - at = length-drop at s in
    record { fits = omega arith }

-- ---- lines

some_line : (b : ℕ) (t : List ℕ) → 0 < length (lines_of (b ∷ t))
unfolding lines_of on_first pick
some_line b t = by (is_line_end b) (lines_of t)
  where
    by : (x : Bool) (ls : List (List ℕ)) → 0 < length (pick x ([] ∷ ls) (on_first b ls))
    by true ls = omega arith
    by false [] = omega arith
    by false (l ∷ ls) = omega arith

-- an empty line may stand behind the last: the library's `split` has one behind a line end that is last
abbrev last_line : List ℕ → List (List ℕ)
last_line [] = [] ∷ []
last_line (b ∷ []) = pick (is_line_end b) ([] ∷ []) []
last_line (b ∷ c ∷ w) = last_line (c ∷ w)

split_lines : (s : List ℕ) → slice_split is_line_end s ≡ lines_of s ++ last_line s
unfolding lines_of on_first pick
split_lines [] = refl
split_lines (b ∷ []) = by (is_line_end b)
  where
    by : (x : Bool) → cond x ([] ∷ [] ∷ []) ((b ∷ []) ∷ []) ≡ pick x ([] ∷ []) ((b ∷ []) ∷ []) ++ pick x ([] ∷ []) []
    by true = refl
    by false = refl
split_lines (b ∷ c ∷ w) = rw (split_lines (c ∷ w)) (by (is_line_end b) (lines_of (c ∷ w)) (some_line c w))
  where
    by : (x : Bool) (ls : List (List ℕ)) → 0 < length ls → cond x ([] ∷ (ls ++ last_line (c ∷ w))) (onto_first b (ls ++ last_line (c ∷ w))) ≡ pick x ([] ∷ ls) (on_first b ls) ++ last_line (c ∷ w)
    by true ls h = refl
    by false [] h = absurd (omega arith)
    by false (l ∷ ls) h = refl

-- ---- every byte of a line

pub all_every : (p : ℕ → Bool) (l : List ℕ) → list_all p l ≡ every p l
unfolding every pick
all_every p [] = refl
all_every p (x ∷ xs) = rw (all_every p xs) (by (p x))
  where
    by : (t : Bool) → (t && every p xs) ≡ pick t (every p xs) false
    by true = refl
    by false = refl

-- ---- numbers

module _ (s : List ℕ) (at : ℕ) (y : Number) (v p : ℕ) (e : y ≡ dotted_part_at s at) (n : y ≡ number v p) where
  pub octet_times : Fits w32 (v * 256)
  octet_times = let h : v ≤ 255 = part_least s at v p (sym e ∙ n) in record { fits = omega arith }

  pub octet_sum : (b : ℕ) (z : Number) (w q : ℕ) → z ≡ dotted_part_at s b → z ≡ number w q → Fits w32 (v * 256 + w)
  octet_sum b z w q g m =
      let h : v ≤ 255 = part_least s at v p (sym e ∙ n) in
      let k : w ≤ 255 = part_least s b w q (sym g ∙ m) in
      record { fits = omega arith }

module _ (s : List ℕ) (at : ℕ) (y : Number) (v p : ℕ) (e : y ≡ dotted_pair_at s at) (n : y ≡ number v p) where
  pub pair_times : Fits w32 (v * 65536)
  pair_times = let h : v ≤ 65535 = pair_least s at v p (sym e ∙ n) in record { fits = omega arith }

  pub pair_sum : (b : ℕ) (z : Number) (w q : ℕ) → z ≡ dotted_pair_at s b → z ≡ number w q → Fits w32 (v * 65536 + w)
  pair_sum b z w q g m =
      let h : v ≤ 65535 = pair_least s at v p (sym e ∙ n) in
      let k : w ≤ 65535 = pair_least s b w q (sym g ∙ m) in
      record { fits = omega arith }

-- ---- the text

abbrev stages : SdpStage → List (List ℕ) → SdpStage
stages x ls = fold (λ y l. sdp_step y (sdp_line_of l)) x ls

stages_are : (x : SdpStage) (ls : List (List ℕ)) → stages x ls ≡ stage_after x ls
unfolding stage_after
stages_are x [] = refl
stages_are x (l ∷ ls) = stages_are (sdp_step x (sdp_line_of l)) ls

stages_on : (x : SdpStage) (ls ms : List (List ℕ)) → stages x (ls ++ ms) ≡ stages (stages x ls) ms
stages_on x [] ms = refl
stages_on x (l ∷ ls) ms = stages_on (sdp_step x (sdp_line_of l)) ls ms

-- an empty line changes nothing
stages_last : (x : SdpStage) (s : List ℕ) → stages x (last_line s) ≡ x
unfolding sdp_line_of is_skipped every pick
stages_last x [] = refl
stages_last x (b ∷ []) = by (is_line_end b)
  where
    by : (t : Bool) → stages x (pick t ([] ∷ []) []) ≡ x
    by true = refl
    by false = refl
stages_last x (b ∷ c ∷ w) = stages_last x (c ∷ w)

pub read_lines : (s : List ℕ) (x : SdpStage) → x ≡ fold (λ y l. sdp_step y (sdp_line_of l)) NoLine (slice_split is_line_end s) → x ≡ stage_after NoLine (lines_of s)
read_lines s x e = e ∙ rw (split_lines s) (stages_on NoLine (lines_of s) (last_line s) ∙ stages_last (stages NoLine (lines_of s)) s ∙ stages_are NoLine (lines_of s))

-- The answers say what the language says: `matched` that the string is in it, `longer` that some strictly longer string that begins with it is.
use Prim.Native.Nat.{ℕ, ◌<◌}
use mathlib.Core.Path.{◌≡◌, refl, sym, ◌∙◌}
use mathlib.Core.Bool.{Bool, true, false, not, ◌&&◌, ◌||◌}
use mathlib.Core.List.{List, [], ◌∷◌, ◌++◌}
use lib.Dec.{ltb}
use borrow.Author.Tests.{lt-ltb}
use Rattle.base.specs.Pick.{pick}
use Rattle.base.specs.Lists.{every}
use Rattle.base.proofs.TestLaws.{clash, and_both, both_and}
use Rattle.digits.specs.Symbols.{takes, dotted}
use Rattle.digits.specs.Dialling.{at_end, once, repeated, matches_one, matches_any, progress, progress_of}
use Rattle.digits.specs.Language.{Matches, ends, one, none, more, InLanguage, first, other, Extends, Says}

or_case : {P : Type 0} (a b : Bool) → a || b ≡ true → (a ≡ true → P) → (b ≡ true → P) → P
or_case true b e f g = f refl
or_case false b e f g = g e

or_left : (a b : Bool) → a ≡ true → a || b ≡ true
or_left a b e = rw e

or_right : (a b : Bool) → b ≡ true → a || b ≡ true
or_right true b e = refl
or_right false b e = e

-- ---- one alternative: how `matchesOne` opens, with a dot and without
module _ (whole : Bool) (set : ℕ) (a w : List ℕ) where
  match_dot : dotted set ≡ true → matches_one whole (set ∷ a) w ≡ repeated whole set (matches_one whole a) w
  unfolding matches_one pick
  match_dot d = rw d

  match_plain : dotted set ≡ false → matches_one whole (set ∷ a) w ≡ once whole set (matches_one whole a) w
  unfolding matches_one pick
  match_plain d = rw d

  by_dot : {P : Type 0} → (dotted set ≡ true → P) → (dotted set ≡ false → P) → P
  by_dot {P} f g = go (dotted set) refl
    where
      go : (t : Bool) → dotted set ≡ t → P
      go true e = f e
      go false e = g e

-- ---- matched: the string is in the language

repeated_rest : (whole : Bool) (set : ℕ) (rest : List ℕ → Bool) (w : List ℕ) → rest w ≡ true → repeated whole set rest w ≡ true
unfolding repeated
repeated_rest whole set rest [] e = or_left (rest []) (not whole) e
repeated_rest whole set rest (c ∷ w) e = or_left (rest (c ∷ w)) _ e

pub matched_complete : {a w : List ℕ} → Matches a w → matches_one true a w ≡ true
unfolding matches_one at_end once repeated
matched_complete ends = refl
matched_complete (one {set} {c} {a} {w} d t x) = match_plain true set a (c ∷ w) d ∙ both_and (takes set c) (matches_one true a w) t (matched_complete x)
matched_complete (none {set} {a} {w} d x) = match_dot true set a w d ∙ repeated_rest true set (matches_one true a) w (matched_complete x)
matched_complete (more {set} {c} {a} {w} d t x) =
    match_dot true set a (c ∷ w) d
    ∙ or_right (matches_one true a (c ∷ w)) _ (both_and (takes set c) (repeated true set (matches_one true a) w) t (sym (match_dot true set a w d) ∙ matched_complete x))

module _ (set : ℕ) (a : List ℕ) (rest : (w : List ℕ) → matches_one true a w ≡ true → Matches a w) where
  repeated_sound : dotted set ≡ true → (w : List ℕ) → repeated true set (matches_one true a) w ≡ true → Matches (set ∷ a) w
  unfolding repeated
  repeated_sound d [] e = none d (rest [] (or_case (matches_one true a []) false e (λ t. t) (λ f. absurd (clash (sym f)))))
  repeated_sound d (c ∷ w) e =
      let deeper : repeated true set (matches_one true a) w ≡ true → Matches (set ∷ a) w = repeated_sound d w in
      or_case (matches_one true a (c ∷ w)) (takes set c && repeated true set (matches_one true a) w) e
      (λ t. none d (rest (c ∷ w) t))
      (λ t. let p = and_both (takes set c) (repeated true set (matches_one true a) w) t in more d p.0 (deeper p.1))

  once_sound : dotted set ≡ false → (w : List ℕ) → once true set (matches_one true a) w ≡ true → Matches (set ∷ a) w
  unfolding once
  once_sound d [] e = absurd (clash (sym e))
  once_sound d (c ∷ w) e = let p = and_both (takes set c) (matches_one true a w) e in one d p.0 (rest w p.1)

pub matched_sound : (a w : List ℕ) → matches_one true a w ≡ true → Matches a w
unfolding matches_one at_end
matched_sound [] [] e = ends
matched_sound [] (c ∷ w) e = absurd (clash (sym e))
matched_sound (set ∷ a) w e =
    let rest : (v : List ℕ) → matches_one true a v ≡ true → Matches a v = matched_sound a in
    by_dot true set a w (λ d. repeated_sound set a rest d w (sym (match_dot true set a w d) ∙ e)) (λ d. once_sound set a rest d w (sym (match_plain true set a w d) ∙ e))

-- ---- longer: some strictly longer string is

-- a selector that takes some symbol; every selector that is read does (ReadLaws)
pub record Fills (set : ℕ) : Type 0 where
  pub symbol : ℕ
  pub small : symbol < 21
  pub taken : takes set symbol ≡ true

pub data Filled : List ℕ → Type 0 where
  empty : Filled []
  with_one : {set : ℕ} {a : List ℕ} → Fills set → Filled a → Filled (set ∷ a)

record Completes (a w : List ℕ) : Type 0 where
  pub further : List ℕ
  pub symbols : every (λ c. ltb c 21) further ≡ true
  pub matched : Matches a (w ++ further)

record Lengthens (a w : List ℕ) : Type 0 where
  pub next : ℕ
  pub further : List ℕ
  pub symbols : every (λ c. ltb c 21) (next ∷ further) ≡ true
  pub matched : Matches a (w ++ next ∷ further)

cons_symbols : (c : ℕ) (v : List ℕ) → c < 21 → every (λ c. ltb c 21) v ≡ true → every (λ c. ltb c 21) (c ∷ v) ≡ true
unfolding every pick
cons_symbols c v h e = rw (lt-ltb c 21 h) e

completes : {a : List ℕ} → Filled a → Completes a []
unfolding every
completes empty = record { further = []; symbols = refl; matched = ends }
completes (with_one {set} {a} f g) =
    let r = completes g in
    by_dot true set a []
    (λ d. record { further = r.further; symbols = r.symbols; matched = none d r.matched })
    (λ d. record { further = f.symbol ∷ r.further; symbols = cons_symbols f.symbol r.further f.small r.symbols; matched = one d f.taken r.matched })

starts : {set : ℕ} {a : List ℕ} → Filled (set ∷ a) → Lengthens (set ∷ a) []
starts (with_one {set} {a} f g) =
    let r = completes g in
    let s : every (λ c. ltb c 21) (f.symbol ∷ r.further) ≡ true = cons_symbols f.symbol r.further f.small r.symbols in
    by_dot true set a []
    (λ d. record { next = f.symbol; further = r.further; symbols = s; matched = more d f.taken (none d r.matched) })
    (λ d. record { next = f.symbol; further = r.further; symbols = s; matched = one d f.taken r.matched })

module _ (set : ℕ) (a : List ℕ) (filled : Filled (set ∷ a)) (rest : (w : List ℕ) → matches_one false a w ≡ true → Lengthens a w) where
  repeated_longer : dotted set ≡ true → (w : List ℕ) → repeated false set (matches_one false a) w ≡ true → Lengthens (set ∷ a) w
  unfolding repeated
  repeated_longer d [] e = starts filled
  repeated_longer d (c ∷ w) e =
      let deeper : repeated false set (matches_one false a) w ≡ true → Lengthens (set ∷ a) w = repeated_longer d w in
      or_case (matches_one false a (c ∷ w)) (takes set c && repeated false set (matches_one false a) w) e
      (λ t. let r = rest (c ∷ w) t in record { next = r.next; further = r.further; symbols = r.symbols; matched = none d r.matched })
      (λ t. let p = and_both (takes set c) (repeated false set (matches_one false a) w) t in
      let r = deeper p.1 in record { next = r.next; further = r.further; symbols = r.symbols; matched = more d p.0 r.matched })

  once_longer : dotted set ≡ false → (w : List ℕ) → once false set (matches_one false a) w ≡ true → Lengthens (set ∷ a) w
  unfolding once
  once_longer d [] e = starts filled
  once_longer d (c ∷ w) e =
      let p = and_both (takes set c) (matches_one false a w) e in
      let r = rest w p.1 in record { next = r.next; further = r.further; symbols = r.symbols; matched = one d p.0 r.matched }

longer_sound : {a : List ℕ} → Filled a → (w : List ℕ) → matches_one false a w ≡ true → Lengthens a w
unfolding matches_one at_end
longer_sound empty [] e = absurd (clash (sym e))
longer_sound empty (c ∷ w) e = absurd (clash (sym e))
longer_sound (with_one {set} {a} f g) w e =
    let rest : (v : List ℕ) → matches_one false a v ≡ true → Lengthens a v = longer_sound g in
    by_dot false set a w
    (λ d. repeated_longer set a (with_one f g) rest d w (sym (match_dot false set a w d) ∙ e))
    (λ d. once_longer set a (with_one f g) rest d w (sym (match_plain false set a w d) ∙ e))

pub at_start : (set : ℕ) (a : List ℕ) → matches_one false (set ∷ a) [] ≡ true
unfolding repeated once
at_start set a = by_dot false set a [] (λ d. match_dot false set a [] d ∙ or_right (matches_one false a []) true refl) (λ d. match_plain false set a [] d)

longer_by : {a u : List ℕ} → Matches a u → (w : List ℕ) (c : ℕ) (v : List ℕ) → u ≡ w ++ c ∷ v → matches_one false a w ≡ true
unfolding once repeated
longer_by ends [] c v e = let z : true ≡ false = cc in absurd (clash z)
longer_by ends (x ∷ w) c v e = let z : true ≡ false = cc in absurd (clash z)
longer_by (one {set} {c = b} {a} {w = u} d t y) [] c v e = at_start set a
longer_by (one {set} {c = b} {a} {w = u} d t y) (x ∷ w) c v e =
    let h : b ≡ x = cc in
    let k : u ≡ w ++ c ∷ v = cc in
    match_plain false set a (x ∷ w) d ∙ both_and (takes set x) (matches_one false a w) (rw h at t) (longer_by y w c v k)
longer_by (none {set} {a} {w = u} d y) w c v e = match_dot false set a w d ∙ repeated_rest false set (matches_one false a) w (longer_by y w c v e)
longer_by (more {set} {c = b} {a} {w = u} d t y) [] c v e = at_start set a
longer_by (more {set} {c = b} {a} {w = u} d t y) (x ∷ w) c v e =
    let h : b ≡ x = cc in
    let k : u ≡ w ++ c ∷ v = cc in
    match_dot false set a (x ∷ w) d
    ∙ or_right (matches_one false a (x ∷ w)) _
    (both_and (takes set x) (repeated false set (matches_one false a) w) (rw h at t) (sym (match_dot false set a w d) ∙ longer_by y w c v k))

-- ---- a map

pub data FilledMap : List (List ℕ) → Type 0 where
  empty_map : FilledMap []
  with_alternative : {a : List ℕ} {m : List (List ℕ)} → Filled a → FilledMap m → FilledMap (a ∷ m)

pub in_language : (m : List (List ℕ)) (w : List ℕ) → matches_any true m w ≡ true → InLanguage m w
unfolding matches_any
in_language [] w e = absurd (clash (sym e))
in_language (a ∷ m) w e =
    let rest : matches_any true m w ≡ true → InLanguage m w = in_language m w in
    or_case (matches_one true a w) (matches_any true m w) e (λ t. first (matched_sound a w t)) (λ t. other (rest t))

pub language_in : {m : List (List ℕ)} {w : List ℕ} → InLanguage m w → matches_any true m w ≡ true
unfolding matches_any
language_in (first {a} {m} {w} x) = or_left (matches_one true a w) (matches_any true m w) (matched_complete x)
language_in (other {a} {m} {w} x) = or_right (matches_one true a w) (matches_any true m w) (language_in x)

pub extends : {m : List (List ℕ)} → FilledMap m → (w : List ℕ) → matches_any false m w ≡ true → Extends m w
unfolding matches_any
extends empty_map w e = absurd (clash (sym e))
extends (with_alternative {a} {m} f g) w e =
    let rest : matches_any false m w ≡ true → Extends m w = extends g w in
    or_case (matches_one false a w) (matches_any false m w) e
    (λ t. let r = longer_sound f w t in record { next = r.next; further = r.further; symbols = r.symbols; matched = first r.matched })
    (λ t. let r = rest t in record { next = r.next; further = r.further; symbols = r.symbols; matched = other r.matched })

extended_in : {m : List (List ℕ)} {u : List ℕ} → InLanguage m u → (w : List ℕ) (c : ℕ) (v : List ℕ) → u ≡ w ++ c ∷ v → matches_any false m w ≡ true
unfolding matches_any
extended_in (first {a} {m} x) w c v e = or_left (matches_one false a w) (matches_any false m w) (longer_by x w c v e)
extended_in (other {a} {m} x) w c v e = or_right (matches_one false a w) (matches_any false m w) (extended_in x w c v e)

pub extends_in : {m : List (List ℕ)} {w : List ℕ} → Extends m w → matches_any false m w ≡ true
extends_in {m} {w} x = extended_in x.matched w x.next x.further refl

-- what every answer says, and so what the answer is
pub progress_says : {m : List (List ℕ)} → FilledMap m → (w : List ℕ) → Says m w (progress_of m w)
unfolding progress_of progress pick
progress_says {m} f w = go (matches_any true m w) refl (matches_any false m w) refl
  where
    no_match : matches_any true m w ≡ false → InLanguage m w → ⊥
    no_match e x = clash (sym (language_in x) ∙ e)

    no_more : matches_any false m w ≡ false → Extends m w → ⊥
    no_more e x = clash (sym (extends_in x) ∙ e)

    go : (p : Bool) → matches_any true m w ≡ p → (q : Bool) → matches_any false m w ≡ q → Says m w (progress p q)
    go true e true g = (in_language m w e, extends f w g)
    go true e false g = (in_language m w e, no_more g)
    go false e true g = (no_match e, extends f w g)
    go false e false g = (no_match e, no_more g)

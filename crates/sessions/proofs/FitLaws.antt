-- How long the contexts of a sound table of any count of lines are, printed.
use Prim.Native.Nat.{ℕ, suc, ◌+◌, ◌*◌, ◌-◌, ◌/◌, ◌%◌, ◌≤◌, ◌<◌}
use mathlib.Core.Path.{◌≡◌, refl, sym, ◌∙◌}
use mathlib.Core.Bool.{Bool, true, false, ◌&&◌}
use mathlib.Core.List.{List, [], ◌∷◌}
use native.Mathlib.Omega.{arith}
use lib.ListN.{length}
use lib.Dec.{eqb, leb}
use borrow.Author.Tests.{eqb-true, leb-false, ne_eqb}
use Rattle.base.specs.Pick.{pick}
use Rattle.base.specs.Lists.{every, count}
use Rattle.base.specs.Bytes.{text, decimal, ◌then◌}
use Rattle.base.proofs.PickLaws.{pick_ind}
use Rattle.base.proofs.TestLaws.{pick_both, and_both}
use Rattle.base.proofs.TextLaws.{length_then, length_below}
use Rattle.laws.proofs.Sound.{record_sound}
use Rattle.megaco.specs.Table.{channels, terminations, contexts, start_of, words, fitted, region_words, most_lines, line_terminations, is_ephemeral, context_words, property_words, record_words, ephemeral_contexts, ephemeral_properties, is_property_word, absent_are_zero, priority_of, emergency_of, record_is_sound, records_are_sound, sized, map_is_sound, flow_words, flows_are_sound, speech_words, speech_is_sound, sound}
use Rattle.megaco.specs.Names.{name_text}
use Rattle.megaco.proofs.Sizes.{fitted_is}
use Rattle.megaco.proofs.Regions.{Region, region, context_region, record_region}
use Rattle.megaco.specs.Room.{room_sound}
use Rattle.megaco.specs.Blocks.{blocks_are_sound}
use Rattle.megaco.specs.Call.{state_fits}
use Rattle.sessions.specs.Session.{ready, Lent}
use Rattle.sessions.specs.Lines.{line_end}
use Rattle.sessions.specs.Listing.{lines, each, member_text, members_text, properties_text, context_line, present, count_line, parts_text, contexts_text, report_text}

-- `R/n`, `L/l/s`
name_fits : (n i : ℕ) → n ≤ most_lines → i < terminations n → length (name_text n i) ≤ 7
unfolding name_text is_ephemeral
name_fits n i m h =
    pick_ind (λ l. length l ≤ 7) (leb (line_terminations n) i) (text "R/" then decimal (i - line_terminations n + 1))
    (text "L/" then decimal (i / channels + 1) then text "/" then decimal (i % channels + 1))
    (λ e. simp length_then (omega (arith, length_below 1 (i - line_terminations n + 1) (omega arith))))
    (λ e.
    simp length_then
    (omega (arith, length_below 1 (i / channels + 1) (omega (arith, leb-false (line_terminations n) i e)), length_below 1 (i % channels + 1) (omega arith))))

member_fits : (n c i w : ℕ) → n ≤ most_lines → i < terminations n → length (member_text n c i w) ≤ 8 * pick (eqb w c) 1 0
unfolding member_text pick
member_fits n c i w m h = by (eqb w c)
  where
    by : (x : Bool) → length (pick x (text " " then name_text n i) []) ≤ 8 * pick x 1 0
    by true = simp length_then (omega (arith, name_fits n i m h))
    by false = omega arith

members_fit : (n c i : ℕ) (ws : List ℕ) → n ≤ most_lines → i + length ws ≤ terminations n → length (each (member_text n c) i ws) ≤ 8 * count c ws
unfolding each count
members_fit n c i [] m h = omega arith
members_fit n c i (w ∷ ws) m h = simp length_then (omega (arith, member_fits n c i w m (omega arith), members_fit n c (i + 1) ws m (omega arith)))

line_fits : (n : ℕ) (ws : List ℕ) (c r : ℕ) → n ≤ most_lines → length ws ≤ terminations n → c ≤ contexts → record_is_sound r (count c ws) ≡ true
    → length (context_line n ws c r) ≤ 9 + 8 * count c ws
unfolding context_line properties_text
line_fits n ws c r m l h s =
    let k = record_sound r (count c ws) s in
    pick_ind (λ x. length x ≤ 9 + 8 * count c ws) (eqb r 0) [] (decimal c then properties_text r then members_text n c ws then (line_end ∷ [])) (λ e. omega arith)
    (λ e.
    simp length_then
    (omega (arith, length_below 2 c (omega arith), length_below 1 (priority_of r) (omega arith), length_below 0 (emergency_of r) (omega arith), members_fit n c 0 ws m (omega arith))))

-- ---- a termination stands in one context at most

-- the terminations in the contexts from c on, one for each record
spread : List ℕ → ℕ → List ℕ → ℕ
spread ws c [] = 0
spread ws c (r ∷ rs) = count c ws + spread ws (c + 1) rs

-- how many of those contexts a word names
count_in : ℕ → ℕ → List ℕ → ℕ
count_in w c [] = 0
count_in w c (r ∷ rs) = pick (eqb w c) 1 0 + count_in w (c + 1) rs

count_in_none : (w c : ℕ) (rs : List ℕ) → w < c → count_in w c rs ≡ 0
unfolding count_in pick
count_in_none w c [] h = refl
count_in_none w c (r ∷ rs) h = rw (ne_eqb w c (λ e. omega arith), count_in_none w (c + 1) rs (omega arith))

count_in_once : (w c : ℕ) (rs : List ℕ) → count_in w c rs ≤ 1
unfolding count_in
count_in_once w c [] = omega arith
count_in_once w c (r ∷ rs) =
    pick_ind (λ x. x + count_in w (c + 1) rs ≤ 1) (eqb w c) 1 0 (λ e. omega (arith, eqb-true w c e, count_in_none w (c + 1) rs (omega (arith, eqb-true w c e))))
    (λ e. omega (arith, count_in_once w (c + 1) rs))

spread_more : (w : ℕ) (ws : List ℕ) (c : ℕ) (rs : List ℕ) → spread (w ∷ ws) c rs ≡ count_in w c rs + spread ws c rs
unfolding spread count_in count
spread_more w ws c [] = omega arith
spread_more w ws c (r ∷ rs) = omega (arith, spread_more w ws (c + 1) rs)

spread_none : (c : ℕ) (rs : List ℕ) → spread [] c rs ≡ 0
unfolding spread count
spread_none c [] = refl
spread_none c (r ∷ rs) = omega (arith, spread_none (c + 1) rs)

spread_fits : (ws : List ℕ) (c : ℕ) (rs : List ℕ) → spread ws c rs ≤ length ws
spread_fits [] c rs = omega (arith, spread_none c rs)
spread_fits (w ∷ ws) c rs = omega (arith, spread_more w ws c rs, count_in_once w c rs, spread_fits ws c rs)

-- ---- the whole

lines_fit : (n : ℕ) (ws : List ℕ) (c : ℕ) (rs : List ℕ) → n ≤ most_lines → length ws ≤ terminations n → c + length rs ≤ suc contexts → records_are_sound ws c rs ≡ true
    → length (each (context_line n ws) c rs) ≤ 9 * length rs + 8 * spread ws c rs
unfolding spread each records_are_sound
lines_fit n ws c [] m l h s = omega arith
lines_fit n ws c (r ∷ rs) m l h s =
    let k = pick_both (record_is_sound r (count c ws)) (records_are_sound ws (c + 1) rs) s in
    simp length_then (omega (arith, line_fits n ws c r m l (omega arith) k.0, lines_fit n ws (c + 1) rs m l (omega arith) k.1))

present_fits : (rs : List ℕ) → present rs ≤ length rs
unfolding present
present_fits [] = omega arith
present_fits (r ∷ rs) = let one : pick (eqb r 0) 0 1 ≤ 1 = pick_ind (λ n. n ≤ 1) _ _ _ (λ e. omega arith) (λ e. omega arith) in omega (arith, present_fits rs)

records_of_sound : (t : List ℕ) → sound t ≡ true → records_are_sound (context_words t) 1 (record_words t) ≡ true
unfolding sound
records_of_sound t s =
    let r : Bool = records_are_sound (context_words t) 1 (record_words t) in
    let words' : Bool = sized t && every (λ w. leb w contexts) (context_words t) && every is_property_word (property_words t) && absent_are_zero (ephemeral_contexts t) (ephemeral_properties t) in
    let map : Bool = map_is_sound t in
    let flows : Bool = flows_are_sound (context_words t) 1 (flow_words t) in
    (and_both words' r (and_both (words' && r) map (and_both (words' && r && map) flows (and_both (words' && r && map && flows) (speech_is_sound (ephemeral_contexts t) (speech_words t)) s).0).0).0).1

-- a region has its words alone
region_is : (n k : ℕ) (t ws : List ℕ) → Region n k t ws → ws ≡ region_words n k t
region_is n k t ws r = sym (r.cut (start_of n k) (start_of n (suc k)) refl refl) ∙ (region n k t).cut (start_of n k) (start_of n (suc k)) refl refl

records_of : (n : ℕ) (t : List ℕ) → length t ≡ words n → sound t ≡ true → records_are_sound (region_words n 0 t) 1 (region_words n 2 t) ≡ true
records_of n t l s =
    let f : fitted t ≡ n = fitted_is n t l in
    let a : context_words t ≡ region_words n 0 t = rw f at (region_is (fitted t) 0 t (context_words t) (context_region t)) in
    let b : record_words t ≡ region_words n 2 t = rw f at (region_is (fitted t) 2 t (record_words t) (record_region t)) in
    rw (a, b) at (records_of_sound t s)

-- the contexts of a sound table of n lines take at most 5,645 bytes: 13 for their count, 9 for each context, 8 for each termination
pub contexts_fit : (n : ℕ) (t : List ℕ) → n ≤ most_lines → length t ≡ words n → sound t ≡ true → length (contexts_text n t) ≤ 5645
unfolding contexts_text parts_text count_line
contexts_fit n t m e s =
    let ws : List ℕ = region_words n 0 t in
    let rs : List ℕ = region_words n 2 t in
    let k : length rs ≤ contexts = (region n 2 t).few in
    let l : length ws ≤ terminations n = (region n 0 t).few in
    simp length_then
    (omega (arith, length_below 2 (present rs) (omega (arith, present_fits rs)), spread_fits ws 1 rs, lines_fit n ws 1 rs m l (omega arith) (records_of n t e s)))

pub report_fits : (t : Lent) → ready t ≡ true → length (report_text t.state.table) ≤ 5645
unfolding ready state_fits
report_fits t e =
    let a = and_both (state_fits lines t.state) (room_sound t.room) e in
    let c = and_both (eqb (length t.state.table) (words lines) && sound t.state.table) (blocks_are_sound t.state.blocks) a.0 in
    let b = and_both (eqb (length t.state.table) (words lines)) (sound t.state.table) c.0 in
    contexts_fit lines t.state.table (omega arith) (eqb-true (length t.state.table) (words lines) b.0) b.1

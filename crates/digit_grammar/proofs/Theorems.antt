-- Reading a digit map finds exactly what the grammar derives, with its one map; refusal 6 is exactly where it derives nothing.
use Prim.Native.Nat.{ℕ}
use mathlib.Core.Path.{◌≡◌, refl}
use mathlib.Core.Logic.{◌↔◌}
use mathlib.Core.List.{List}
use mathlib.Core.Option.{Option, none, some}
use native.Mathlib.Omega.{arith}
use Rattle.base.proofs.TestLaws.{pick_of}
use Rattle.digits.specs.DigitMap.{map_r}
use Rattle.digits.specs.Dialling.{plan, plan_of, first_timer, load, dial, answered, is_dialled, progress_of}
use Rattle.digits.specs.Language.{Says}
use Rattle.digits.specs.declared.ZeroStart.{ZeroStart}
use Rattle.std.specs.Prelude.{Err}
use Rattle.digits.specs.declared.DialError.TheVariants.{BadMap}
use Rattle.digits.proofs.ReadLaws.{answer_says}
use Rattle.digit_grammar.specs.DigitGrammar.{digit_map}
use Rattle.digit_grammar.proofs.MapLaws.{map_reads, map_sound}

-- ---- what is read, the grammar derives, with the same map
pub read_derives : (s : List ℕ) (m : List (List ℕ)) → map_r s ≡ some m → digit_map s m
read_derives = map_sound

-- ---- what the grammar derives is read, with the same map
pub complete : (s : List ℕ) (m : List (List ℕ)) → digit_map s m → map_r s ≡ some m
complete s m d = map_reads d

pub read_as : (s : List ℕ) (m : List (List ℕ)) → map_r s ≡ some m ↔ digit_map s m
read_as s m = (read_derives s m, complete s m)

-- ---- no text has two maps
pub one_map : (s : List ℕ) (m k : List (List ℕ)) → digit_map s m → digit_map s k → m ≡ k
one_map s m k d e = let f = complete s m d in let g = complete s k e in cc

-- ---- no map is read exactly where the grammar derives none
pub no_map : (s : List ℕ) → map_r s ≡ none ↔ ((m : List (List ℕ)) → ¬ digit_map s m)
no_map s = (λ h m d. let f = complete s m d in let z : ◌≡◌ {A = ℕ} 0 1 = cc in omega arith, λ h. by (map_r s) refl h)
  where
    by : (r : Option (List (List ℕ))) → map_r s ≡ r → ((m : List (List ℕ)) → ¬ digit_map s m) → r ≡ none
    by none e h = refl
    by (some m) e h = absurd (h m (read_derives s m e))

-- "6 for a malformed or too large map": so where the grammar derives none, whatever the start timer, its rule and the dialled string
pub refusal_6 : (s : List ℕ) (start : ℕ) (rule : ZeroStart) (w : List ℕ)
    → dial (load s start rule) w ≡ Err BadMap ↔ ((m : List (List ℕ)) → ¬ digit_map s m)
unfolding load plan_of dial answered
refusal_6 s start rule w = (λ h. (no_map s).0 (to (map_r s) h), λ h. rw ((no_map s).1 h))
  where
    to : (r : Option (List (List ℕ))) → dial (plan_of r (first_timer start rule)) w ≡ Err BadMap → r ≡ none
    to none h = refl
    to (some m) h = absurd (pick_of (λ r. r ≡ Err BadMap → ⊥) (is_dialled w)
        (λ t e. let z : ◌≡◌ {A = ℕ} 0 1 = cc in omega arith)
        (λ t e. let z : ◌≡◌ {A = ℕ} 0 1 = cc in omega arith) h)

-- a text that the grammar derives is loaded with its map, and the answers say what is in the map's language
pub loads : (s : List ℕ) (m : List (List ℕ)) (start : ℕ) (rule : ZeroStart) → digit_map s m → load s start rule ≡ plan m (first_timer start rule)
unfolding load plan_of
loads s m start rule d = rw (complete s m d)

pub says : (s : List ℕ) (m : List (List ℕ)) (w : List ℕ) → digit_map s m → Says m w (progress_of m w)
says s m w d = answer_says s m w (complete s m d)

-- Refusals in their order. The rule for a start timer of zero decides one thing alone: the timer before any symbol, where the start timer is zero.
use Prim.Native.Nat.{ℕ}
use mathlib.Core.Path.{◌≡◌, refl}
use mathlib.Core.Bool.{true, false}
use mathlib.Core.List.{List, ◌∷◌}
use mathlib.Core.Option.{Option, none, some}
use borrow.Author.Tests.{ne_eqb}
use Rattle.base.specs.Pick.{pick}
use Rattle.digits.specs.DigitMap.{map_r}
use Rattle.digits.specs.Symbols.{symbols_of}
use Rattle.digits.specs.Dialling.{first_timer, timer_of, answered, plan_of, load, dial, is_dialled, progress_of}
use Rattle.digits.specs.declared.ZeroStart.{ZeroStart}
use Rattle.std.specs.Prelude.{Err}
use Rattle.digits.specs.declared.DialError.TheVariants.{BadMap, BadString}

-- once there is a symbol, neither the start timer nor the rule plays a part
pub after_a_symbol : (s : List ℕ) (start start' : ℕ) (rule rule' : ZeroStart) (b : ℕ) (w : List ℕ) → dial (load s start rule) (b ∷ w) ≡ dial (load s start' rule') (b ∷ w)
unfolding dial load plan_of answered timer_of
after_a_symbol s start start' rule rule' b w = by (map_r s)
  where
    by : (m : Option (List (List ℕ))) → dial (plan_of m (first_timer start rule)) (b ∷ w) ≡ dial (plan_of m (first_timer start' rule')) (b ∷ w)
    by none = refl
    by (some m) = refl

-- nor does the rule where the start timer is not zero
pub other_than_zero : (s : List ℕ) (start : ℕ) (rule rule' : ZeroStart) (w : List ℕ) → (start ≡ 0 → ⊥) → dial (load s start rule) w ≡ dial (load s start rule') w
unfolding load first_timer pick
other_than_zero s start rule rule' w h = rw (ne_eqb start 0 h)

-- ---- "6 first": a malformed map is 6 whatever was dialled, and only a map that is read lets the string be 7
pub map_first : (s : List ℕ) (start : ℕ) (rule : ZeroStart) (w : List ℕ) → map_r s ≡ none → dial (load s start rule) w ≡ Err BadMap
unfolding load plan_of dial
map_first s start rule w e = rw e

pub string_second : (s : List ℕ) (m : List (List ℕ)) (start : ℕ) (rule : ZeroStart) (w : List ℕ) → map_r s ≡ some m → is_dialled w ≡ false → dial (load s start rule) w ≡ Err BadString
unfolding load plan_of dial pick
string_second s m start rule w e f = rw (e, f)

-- nothing else is refused: the answer is what the map and the symbols say
pub answers : (s : List ℕ) (m : List (List ℕ)) (start : ℕ) (rule : ZeroStart) (w : List ℕ) → map_r s ≡ some m → is_dialled w ≡ true
    → dial (load s start rule) w ≡ answered (first_timer start rule) w (progress_of m (symbols_of w))
unfolding load plan_of dial pick
answers s m start rule w e f = rw (e, f)

-- A loaded map means the same after it was made a number and taken apart again.
use Prim.Native.Nat.{ℕ, ◌+◌, ◌*◌, ◌/◌, ◌%◌, ◌<◌, ◌≤◌}
use mathlib.Core.Path.{◌≡◌, refl, sym, ◌∙◌}
use mathlib.Core.List.{List}
use native.Mathlib.Omega.{arith}
use Rattle.base.specs.Pick.{pick}
use Rattle.digits.specs.Dialling.{Dialled, load, dial}
use Rattle.digits.specs.Codes.{Decodes, timer_code, timer_at, zero_at, packed, progress_code}
use Rattle.digits.specs.declared.Progress.{Progress}
use Rattle.digits.specs.declared.Progress.TheVariants.{NoMatch, MoreNeeded, MorePossible, Closed}
use Rattle.digits.specs.declared.Timer.{Timer}
use Rattle.digits.specs.declared.Timer.TheVariants.{NoTimer, StartTimer, LongTimer, ShortTimer, RunOut}
use Rattle.digits.specs.declared.ZeroStart.{ZeroStart}
use Rattle.std.specs.Prelude.{Some, None, Ok, Err}
use Rattle.std.specs.declared.option.Option.{Option}
use Rattle.std.specs.declared.result.Result.{Result}
use Rattle.std.specs.Result.{result_unwrap_or}
use Rattle.digits.specs.declared.UnknownTimer.{UnknownTimer}
use borrow.Author.Tests.{ne_eqb}
use Rattle.dialling.specs.Cells.{plan_in, Keeps}
use Rattle.dialling.specs.declared.Loaded.{Loaded}
use Rattle.cordafina.specs.Heads.{head_of, loaded_at}

timer_again : (t : Timer) → timer_at (timer_code t) ≡ t
unfolding timer_at timer_code pick
timer_again NoTimer = refl
timer_again StartTimer = refl
timer_again LongTimer = refl
timer_again ShortTimer = refl
timer_again RunOut = refl

pub timer_small : (t : Timer) → timer_code t ≤ 4
unfolding timer_code
timer_small NoTimer = omega arith
timer_small StartTimer = omega arith
timer_small LongTimer = omega arith
timer_small ShortTimer = omega arith
timer_small RunOut = omega arith

pub progress_small : (p : Progress) → progress_code p ≤ 3
unfolding progress_code
progress_small NoMatch = omega arith
progress_small MoreNeeded = omega arith
progress_small MorePossible = omega arith
progress_small Closed = omega arith

-- a number that is taken for a timer
pub timer_decoded : (n : ℕ) (r : Result Timer UnknownTimer) (t : Timer) → Decodes n r → t ≡ result_unwrap_or r NoTimer → t ≡ timer_at n
timer_decoded n (Ok u) t h e = let f : t ≡ u = e in rw (f, ← h) (sym (timer_again u))
timer_decoded n (Err x) t h e = let f : t ≡ NoTimer = e in rw f (by (omega (arith, h.1)))
  where
    by : 4 < n → NoTimer ≡ timer_at n
    by g = unfold timer_at pick in rw (ne_eqb n 1 (λ z. omega arith), ne_eqb n 2 (λ z. omega arith), ne_eqb n 3 (λ z. omega arith), ne_eqb n 4 (λ z. omega arith))

-- the three parts of a good map's number
module _ (t : Timer) (n : ℕ) where
  small : timer_code t ≤ 4
  small = timer_small t

  good_part : (1 + 2 * timer_code t + 16 * n) % 2 ≡ 1
  good_part = omega arith

  timer_part : (1 + 2 * timer_code t + 16 * n) / 2 % 8 ≡ timer_code t
  timer_part = let h : timer_code t ≤ 4 = small in omega arith

  count_part : (1 + 2 * timer_code t + 16 * n) / 16 ≡ n
  count_part = let h : timer_code t ≤ 4 = small in omega arith

same_plan : (l : Option Loaded) (cells : List ℕ) → plan_in (loaded_at (head_of l)) cells ≡ plan_in l cells
unfolding plan_in loaded_at head_of pick
same_plan (Some l) cells = rw (good_part l.first l.count, timer_part l.first l.count, count_part l.first l.count, timer_again l.first)
same_plan None cells = refl

pub head_keeps : (s : List ℕ) (start n : ℕ) (z : ZeroStart) (l : Option Loaded) (cells : List ℕ) (r : ℕ) → z ≡ zero_at n → Keeps (load s start z) l cells → r ≡ head_of l
    → plan_in (loaded_at r) cells ≡ load s start (zero_at n)
head_keeps s start n z l cells r g k e = rw e (same_plan l cells ∙ k.is ∙ rw g)

-- ---- an answer's number

-- what a call gives: the number of what was dialled on what was loaded
pub dialled_on : (s : List ℕ) (start n : ℕ) (z : ZeroStart) (l : Option Loaded) (cells w : List ℕ) (d : Dialled) (r : ℕ) → z ≡ zero_at n → Keeps (load s start z) l cells
    → d ≡ dial (plan_in l cells) w → r ≡ packed d → r ≡ packed (dial (load s start (zero_at n)) w)
dialled_on s start n z l cells w d r g k e f = f ∙ rw (e, k.is, g)

pub dialled_again : (n : ℕ) (l : Option Loaded) (cells w : List ℕ) (d : Dialled) (r : ℕ) → l ≡ loaded_at n → d ≡ dial (plan_in l cells) w → r ≡ packed d
    → r ≡ packed (dial (plan_in (loaded_at n) cells) w)
dialled_again n l cells w d r k e f = f ∙ rw (e, k)

pub dialled_plain : (s : List ℕ) (start n : ℕ) (z : ZeroStart) (w : List ℕ) (d : Dialled) (r : ℕ) → z ≡ zero_at n → d ≡ dial (load s start z) w → r ≡ packed d
    → r ≡ packed (dial (load s start (zero_at n)) w)
dialled_plain s start n z w d r g e f = f ∙ rw (e, g)

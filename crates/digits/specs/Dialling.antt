-- What a dialled string is answered (CR 8).
use Rattle.std.specs.Prelude.{ℕ, Bool, true, false, not, ◌&&◌, ◌||◌, List, [], ◌∷◌, length, leb, eqb, Ok, Err}
use Rattle.std.proofs.Math.Option.{Option, none, some}
use Rattle.base.specs.Pick.{pick}
use Rattle.base.specs.Lists.{every}
use Rattle.digits.specs.Symbols.{symbols_of, is_symbol, takes, dotted}
use Rattle.digits.specs.DigitMap.{map_r}
use Rattle.digits.specs.declared.Progress.{Progress}
use Rattle.digits.specs.declared.Progress.TheVariants.{NoMatch, MoreNeeded, MorePossible, Closed}
use Rattle.digits.specs.declared.Timer.{Timer}
use Rattle.digits.specs.declared.Timer.TheVariants.{NoTimer, StartTimer, LongTimer, ShortTimer, RunOut}
use Rattle.digits.specs.declared.ZeroStart.{ZeroStart}
use Rattle.digits.specs.declared.ZeroStart.TheVariants.{Waits, RunsOut}
use Rattle.std.specs.declared.result.Result.{Result}
use Rattle.digits.specs.declared.Answer.{Answer}
use Rattle.digits.specs.declared.DialError.{DialError}
use Rattle.digits.specs.declared.DialError.TheVariants.{BadMap, BadString}

-- ---- an alternative and a string. `whole` says what is asked where the string ends: that the alternative ends too (the string is matched), or
-- that it goes on (some longer string is)
unfoldable pub at_end : Bool → List ℕ → Bool
at_end whole [] = whole
at_end whole (c ∷ w) = false

-- a selector once, and then the rest of the alternative
unfoldable pub once : Bool → ℕ → (List ℕ → Bool) → List ℕ → Bool
once whole set rest [] = not whole
once whole set rest (c ∷ w) = takes set c && rest w

-- a selector with a dot, "for zero or more": without it, or with it
unfoldable pub repeated : Bool → ℕ → (List ℕ → Bool) → List ℕ → Bool
repeated whole set rest [] = rest [] || not whole
repeated whole set rest (c ∷ w) = rest (c ∷ w) || (takes set c && repeated whole set rest w)

unfoldable pub matches_one : Bool → List ℕ → List ℕ → Bool
matches_one whole [] w = at_end whole w
matches_one whole (set ∷ a) w =
    let again = repeated whole set (matches_one whole a) w in
    let next = once whole set (matches_one whole a) w in
    pick (dotted set) again next

-- some alternative of a map does
unfoldable pub matches_any : Bool → List (List ℕ) → List ℕ → Bool
matches_any whole [] w = false
matches_any whole (a ∷ m) w = matches_one whole a w || matches_any whole m w

-- "nothing can match, more needed, matched with more possible, matched and closed"
unfoldable pub progress : Bool → Bool → Progress
progress matched longer = pick matched (pick longer MorePossible Closed) (pick longer MoreNeeded NoMatch)

unfoldable pub progress_of : List (List ℕ) → List ℕ → Progress
progress_of m w = progress (matches_any true m w) (matches_any false m w)

-- ---- timers
-- "Before any symbol with a start timer of zero, source document 001 waits without end (none); our old cards ran out at once (run out)"
unfoldable pub zero_timer : ZeroStart → Timer
zero_timer Waits = NoTimer
zero_timer RunsOut = RunOut

unfoldable pub first_timer : ℕ → ZeroStart → Timer
first_timer start rule = pick (eqb start 0) (zero_timer rule) StartTimer

-- "start before any symbol, long when more is needed, short when matched with more possible, else none"
unfoldable pub later_timer : Progress → Timer
later_timer NoMatch = NoTimer
later_timer MoreNeeded = LongTimer
later_timer MorePossible = ShortTimer
later_timer Closed = NoTimer

unfoldable pub timer_of : Timer → List ℕ → Progress → Timer
timer_of first [] p = first
timer_of first (b ∷ w) p = later_timer p

-- ---- loading and dialling
-- a map with the timer before any symbol, or that it is refused
pub data Plan : Type 0 where
  plan : List (List ℕ) → Timer → Plan
  no_plan : Plan

unfoldable pub plan_of : Option (List (List ℕ)) → Timer → Plan
plan_of none t = no_plan
plan_of (some m) t = plan m t

unfoldable pub load : List ℕ → ℕ → ZeroStart → Plan
load s start rule = plan_of (map_r s) (first_timer start rule)

-- "up to 32 symbols, digits or A to K in either case"
unfoldable pub is_dialled : List ℕ → Bool
is_dialled w = leb (length w) 32 && every is_symbol w

-- an answer and its timer, or the refusal
abbrev pub Dialled : Type 0
Dialled = Result Answer DialError

abbrev pub answer : Progress → Timer → Dialled
answer p t = Ok (record { progress = p; timer = t })

unfoldable pub answered : Timer → List ℕ → Progress → Dialled
answered first w p = answer p (timer_of first w p)

-- "6 for a malformed or too large map, 7 for a dialled string too long or with a foreign symbol; 6 first"
unfoldable pub dial : Plan → List ℕ → Dialled
dial no_plan w = Err BadMap
dial (plan m first) w = let a = answered first w (progress_of m (symbols_of w)) in pick (is_dialled w) a (Err BadString)

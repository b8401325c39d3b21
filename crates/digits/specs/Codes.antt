-- The numbers that stand for answers, timers and refusals where an answer is one number (docs/DIGITS.md).
use Rattle.std.specs.Prelude.{ℕ, ◌+◌, ◌*◌, ◌<◌, ◌≡◌, eqb, Ok, Err, MatchResult}
use Rattle.base.specs.Pick.{pick}
use Rattle.digits.specs.declared.Progress.{Progress}
use Rattle.digits.specs.declared.Progress.TheVariants.{NoMatch, MoreNeeded, MorePossible, Closed}
use Rattle.digits.specs.declared.Timer.{Timer}
use Rattle.digits.specs.declared.Timer.TheVariants.{NoTimer, StartTimer, LongTimer, ShortTimer, RunOut}
use Rattle.std.specs.declared.result.Result.{Result}
use Rattle.digits.specs.declared.UnknownTimer.{UnknownTimer}
use Rattle.digits.specs.declared.ZeroStart.{ZeroStart}
use Rattle.digits.specs.declared.ZeroStart.TheVariants.{Waits, RunsOut}
use Rattle.digits.specs.declared.DialError.TheVariants.{BadMap, BadString}
use Rattle.digits.specs.Dialling.{Dialled}

unfoldable pub progress_code : Progress → ℕ
progress_code NoMatch = 0
progress_code MoreNeeded = 1
progress_code MorePossible = 2
progress_code Closed = 3

unfoldable pub timer_code : Timer → ℕ
timer_code NoTimer = 0
timer_code StartTimer = 1
timer_code LongTimer = 2
timer_code ShortTimer = 3
timer_code RunOut = 4

-- the timer with a number, or that no timer has it
abbrev pub Decodes : ℕ → Result Timer UnknownTimer → Type 0
Decodes n r = MatchResult r (λ t. timer_code t ≡ n) (λ e. (e.0 ≡ n) × (4 < n))

-- the timer of a number; none for any other number
unfoldable pub timer_at : ℕ → Timer
timer_at n = pick (eqb n 1) StartTimer (pick (eqb n 2) LongTimer (pick (eqb n 3) ShortTimer (pick (eqb n 4) RunOut NoTimer)))

-- a start timer of zero waits where the number is 0
unfoldable pub zero_at : ℕ → ZeroStart
zero_at n = pick (eqb n 0) Waits RunsOut

-- document 02's number of a refusal, 0 for an answer
unfoldable pub refusal_of : Dialled → ℕ
refusal_of (Ok a) = 0
refusal_of (Err BadMap) = 6
refusal_of (Err BadString) = 7

-- an answer and its timer; 0 for a refusal
unfoldable pub answer_code : Dialled → ℕ
answer_code (Ok a) = progress_code a.progress + 256 * timer_code a.timer
answer_code (Err e) = 0

-- all in one number: bits 0 to 7 the answer, 8 to 15 the timer, 16 to 31 the refusal
unfoldable pub packed : Dialled → ℕ
packed d = answer_code d + 65536 * refusal_of d

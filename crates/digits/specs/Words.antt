-- The words of answers and refusals, document 02's.
use Rattle.std.specs.Prelude.{ℕ, List}
use Rattle.base.specs.Bytes.{text, ◌then◌}
use Rattle.digits.specs.declared.Progress.{Progress}
use Rattle.digits.specs.declared.Progress.TheVariants.{NoMatch, MoreNeeded, MorePossible, Closed}
use Rattle.digits.specs.declared.Timer.{Timer}
use Rattle.digits.specs.declared.Timer.TheVariants.{NoTimer, StartTimer, LongTimer, ShortTimer, RunOut}
use Rattle.digits.specs.declared.DialError.{DialError}
use Rattle.digits.specs.declared.DialError.TheVariants.{BadMap, BadString}

unfoldable pub progress_text : Progress → List ℕ
progress_text NoMatch = text "nothing can match"
progress_text MoreNeeded = text "more needed"
progress_text MorePossible = text "matched with more possible"
progress_text Closed = text "matched and closed"

unfoldable pub timer_text : Timer → List ℕ
timer_text NoTimer = text "none"
timer_text StartTimer = text "start"
timer_text LongTimer = text "long"
timer_text ShortTimer = text "short"
timer_text RunOut = text "run out"

unfoldable pub shown_text : Progress → Timer → List ℕ
shown_text p t = progress_text p then text ", timer " then timer_text t

unfoldable pub refusal_text : DialError → List ℕ
refusal_text BadMap = text "refused 6"
refusal_text BadString = text "refused 7"

-- The words that the program takes and prints.
use Rattle.std.specs.Prelude.{ℕ, Bool, true, false, List, drop, Some, None, Ok, Err}
use Rattle.base.specs.Pick.{pick}
use Rattle.base.specs.Lists.{same}
use Rattle.base.specs.Bytes.{text}
use Rattle.megaco.specs.Tokens.{number_at}
use Rattle.protocol.specs.Types.{Number}
use Rattle.std.specs.declared.option.Option.{Option}
use Rattle.digits.specs.declared.ZeroStart.{ZeroStart}
use Rattle.digits.specs.declared.ZeroStart.TheVariants.{Waits, RunsOut}
use Rattle.digits.specs.Dialling.{Dialled}
use Rattle.digits.specs.Words.{shown_text, refusal_text}
use Rattle.dial.specs.declared.Settings.{Settings}

-- ---- the second line
abbrev pub set : ℕ → ZeroStart → Bool → Option Settings
set start rule plain = Some (record { start = start; rule = rule; plain = plain })

unfoldable pub rule_of : ℕ → List ℕ → Option Settings
rule_of start w =
    pick (same w (text " waits")) (set start Waits false)
    (pick (same w (text " runs out")) (set start RunsOut false)
    (pick (same w (text " waits plain")) (set start Waits true)
    (pick (same w (text " runs out plain")) (set start RunsOut true) None)))

unfoldable pub settings_after : Number → List ℕ → Option Settings
settings_after (Some (start, p)) s = rule_of start (drop p s)
settings_after None s = None

unfoldable pub settings_of : List ℕ → Option Settings
settings_of s = settings_after (number_at s 0 10 4294967295) s

-- ---- answers, in document 02's words
unfoldable pub answer_text : Dialled → List ℕ
answer_text (Ok a) = shown_text a.progress a.timer
answer_text (Err e) = refusal_text e

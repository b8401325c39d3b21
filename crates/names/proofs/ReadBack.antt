-- The full name of every termination reads back as its number: one computed test, and the law that turns it into the statement.
use Prim.Native.Nat.{ℕ, ◌<◌, ◌≤◌}
use mathlib.Core.Path.{◌≡◌, refl, sym, ap}
use mathlib.Core.Bool.{Bool, true, false, true≢false}
use native.Mathlib.Omega.{arith}
use lib.Dec.{eqb}
use borrow.Author.Tests.{eqb-true}
use Rattle.base.specs.Pick.{pick}
use Rattle.base.specs.Lists.{same, has, before, behind}
use Rattle.base.specs.Bytes.{◌then◌, decimal_f, decimal}
use Rattle.base.proofs.TestLaws.{below, below_at}
use Rattle.megaco.specs.Bytes.{is_digit, capital, capitals}
use Rattle.megaco.specs.Table.{most_lines, terminations, is_ephemeral}
use Rattle.megaco.specs.Names.{numeral, within, line_name, ephemeral_name, plain_name, capital_name, name_of, name_text}
use Rattle.protocol.specs.Types.{Name, Termination, Root, Chosen, Unchosen, Wildcard, Unmatched, Unknown}

is_number : ℕ → Name → Bool
is_number i (Termination k) = eqb k i
is_number i Root = false
is_number i Chosen = false
is_number i Unchosen = false
is_number i (Wildcard r) = false
is_number i Unmatched = false
is_number i Unknown = false

is_number_lem : (i : ℕ) (n : Name) → is_number i n ≡ true → n ≡ Termination i
unfolding is_number
is_number_lem i (Termination k) e = ap Termination (eqb-true k i e)
is_number_lem i Root e = absurd (true≢false (sym e))
is_number_lem i Chosen e = absurd (true≢false (sym e))
is_number_lem i Unchosen e = absurd (true≢false (sym e))
is_number_lem i (Wildcard r) e = absurd (true≢false (sym e))
is_number_lem i Unmatched e = absurd (true≢false (sym e))
is_number_lem i Unknown e = absurd (true≢false (sym e))

reads_back : ℕ → ℕ → Bool
reads_back lines i = is_number i (name_of lines (name_text lines i))

all_read : ℕ → Bool
all_read lines = below (reads_back lines) (terminations lines)

all : below all_read 17 ≡ true
unfolding below is_number reads_back all_read pick same has before behind ◌then◌ decimal_f decimal is_digit capital capitals is_ephemeral numeral within line_name ephemeral_name plain_name capital_name name_of name_text
all = refl

pub name_reads_back : (lines i : ℕ) → lines ≤ most_lines → i < terminations lines → name_of lines (name_text lines i) ≡ Termination i
unfolding reads_back all_read
name_reads_back lines i k h =
    is_number_lem i (name_of lines (name_text lines i)) (below_at (reads_back lines) (terminations lines) i (below_at all_read 17 lines all (omega arith)) h)

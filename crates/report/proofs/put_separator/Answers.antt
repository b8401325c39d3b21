use Rattle.std.proofs.Common.{rules}
use Rattle.base.proofs.OutLaws.{chosen_yes}
use Rattle.base.proofs.OutLaws.{chosen_no}
use Rattle.base.proofs.OutLaws.{none}
use Rattle.megaco.specs.Reply.{separator}
use Rattle.report.proofs.put_separator.Goals as goal

pub returns-then-first : goal.returns-then-first
unfolding separator
returns-then-first c = search (chosen_yes, chosen_no, none, rules)

pub returns : goal.returns
unfolding separator
returns c = search (chosen_yes, chosen_no, none, rules)

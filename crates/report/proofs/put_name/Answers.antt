use Rattle.base.proofs.OutLaws.{chosen_yes, chosen_no, after, four}
use Rattle.megaco.specs.Table.{is_ephemeral}
use Rattle.megaco.specs.Names.{name_text}
use borrow.Author.Tests.{le-leb, lt-leb}
use Rattle.report.proofs.put_name.Goals as goal

pub returns-then-first-i : goal.returns-then-first-i
unfolding name_text is_ephemeral
returns-then-first-i c = search (chosen_yes, after, le-leb)

pub returns : goal.returns
unfolding name_text is_ephemeral
returns c = search (chosen_no, four, lt-leb)

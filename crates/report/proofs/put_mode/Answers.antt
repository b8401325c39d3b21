use borrow.Author.Tests.{eq-eqb, ne_eqb}
use Rattle.base.proofs.OutLaws.{chosen_yes, chosen_no}
use Rattle.megaco.specs.Reply.{mode_text}
use Rattle.report.proofs.put_mode.Goals as goal

pub returns-then-mode-eq0 : goal.returns-then-mode-eq0
unfolding mode_text
returns-then-mode-eq0 c = search (chosen_yes, chosen_no, eq-eqb, ne_eqb)

pub returns-then-mode-eq1 : goal.returns-then-mode-eq1
unfolding mode_text
returns-then-mode-eq1 c = search (chosen_yes, chosen_no, eq-eqb, ne_eqb)

pub returns-then-mode-eq2 : goal.returns-then-mode-eq2
unfolding mode_text
returns-then-mode-eq2 c = search (chosen_yes, chosen_no, eq-eqb, ne_eqb)

pub returns-then-mode-eq3 : goal.returns-then-mode-eq3
unfolding mode_text
returns-then-mode-eq3 c = search (chosen_yes, chosen_no, eq-eqb, ne_eqb)

pub returns : goal.returns
unfolding mode_text
returns c = search (chosen_yes, chosen_no, eq-eqb, ne_eqb)

use borrow.Author.Tests.{eq-eqb, ne_eqb}
use Rattle.base.proofs.OutLaws.{chosen_yes, chosen_no}
use Rattle.megaco.specs.Reply.{state_text}
use Rattle.report.proofs.put_state.Goals as goal

pub returns-then-state-eq0 : goal.returns-then-state-eq0
unfolding state_text
returns-then-state-eq0 c = search (chosen_yes, chosen_no, eq-eqb, ne_eqb)

pub returns-then-state-eq1 : goal.returns-then-state-eq1
unfolding state_text
returns-then-state-eq1 c = search (chosen_yes, chosen_no, eq-eqb, ne_eqb)

pub returns : goal.returns
unfolding state_text
returns c = search (chosen_yes, chosen_no, eq-eqb, ne_eqb)

use Rattle.base.specs.Pick.{picks}
use Rattle.dial.specs.Words.{rule_of}
use Rattle.dial.proofs.LineLaws.{told}
use Rattle.dial.proofs.rule_of.Goals as goal

pub returns-else-eq-4 : goal.returns-else-eq-4
returns-else-eq-4 c = unfold rule_of in search (picks, told) depth 16

pub returns-then-eq-3 : goal.returns-then-eq-3
returns-then-eq-3 c = unfold rule_of in search (picks, told) depth 16

pub returns-then-eq-4 : goal.returns-then-eq-4
returns-then-eq-4 c = unfold rule_of in search (picks, told) depth 16

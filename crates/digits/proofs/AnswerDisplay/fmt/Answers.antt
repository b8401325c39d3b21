use Rattle.base.specs.Bytes.{◌then◌}
use Rattle.digits.specs.Words.{shown_text}
use Rattle.digits.proofs.AnswerDisplay.fmt.Goals as goal

pub returns-clause-writes : goal.returns-clause-writes
returns-clause-writes g c = unfold shown_text ◌then◌ in c.write.ensures.writes

use Rattle.base.proofs.OutLaws.{three}
use Rattle.digits.specs.Words.{shown_text}
use Rattle.dial.proofs.put_shown.Goals as goal

pub returns : goal.returns
returns c = unfold shown_text in search three

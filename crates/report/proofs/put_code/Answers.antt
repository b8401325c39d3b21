use Rattle.std.proofs.Common.{rules}
use Rattle.base.proofs.OutLaws.{three}
use Rattle.megaco.specs.Reply.{code_text}
use Rattle.report.proofs.put_code.Goals as goal

pub returns : goal.returns
unfolding code_text
returns c = search (three, rules)

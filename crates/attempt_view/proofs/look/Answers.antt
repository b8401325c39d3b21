use Rattle.std.proofs.Common.{rules}
use Rattle.attempt_view.proofs.ViewLaws.{looked}
use Rattle.attempt_view.proofs.look.Goals as goal

pub returns : goal.returns
returns c = search (looked, rules)

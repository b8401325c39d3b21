use Rattle.run_action.proofs.ActsLaws.{action_copied}
use Rattle.run_action.proofs.put_action.Goals as goal

pub returns : goal.returns
returns c = search action_copied

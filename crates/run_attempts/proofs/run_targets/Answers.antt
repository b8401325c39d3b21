use Rattle.std.proofs.Common.{rules}
use Rattle.run_attempts.proofs.RunsToLaws.{target_none, target_gateway, target_one}
use Rattle.run_attempts.proofs.run_targets.Goals as goal

pub returns-in-NoTarget : goal.returns-in-NoTarget
returns-in-NoTarget c = search (rules, target_none)

pub returns-in-Gateway : goal.returns-in-Gateway
returns-in-Gateway c = search (rules, target_gateway)

pub returns-in-One : goal.returns-in-One
returns-in-One c = search (rules, target_one)

use Rattle.std.proofs.Common.{rules}
use Rattle.targets.proofs.TargetLaws.{for_one}
use Rattle.targets.proofs.TargetLaws.{for_root}
use Rattle.targets.proofs.TargetLaws.{for_chosen}
use Rattle.targets.proofs.TargetLaws.{for_unchosen}
use Rattle.targets.proofs.TargetLaws.{for_wildcard}
use Rattle.targets.proofs.TargetLaws.{for_unmatched}
use Rattle.targets.proofs.TargetLaws.{for_unknown}
use Rattle.targets.proofs.target_of.Goals as goal

pub returns-in-Wildcard : goal.returns-in-Wildcard
returns-in-Wildcard c = search (for_one, for_root, for_chosen, for_unchosen, for_wildcard, for_unmatched, for_unknown, rules)

use Rattle.std.proofs.Common.{rules}
use Rattle.run_command.proofs.CommandLaws.{tested_411, tested_on, items_judged}
use Rattle.run_command.proofs.run_tested.Goals as goal

pub returns-then-no_context : goal.returns-then-no_context
returns-then-no_context c = (search tested_411, search rules)

pub run_judged-requires : goal.run_judged-requires
run_judged-requires c = (search rules, items_judged _ _ _ c.judge_items-x.ensures.0)

pub returns : goal.returns
returns c = (search tested_on, search rules)

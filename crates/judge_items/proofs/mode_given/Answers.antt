use Rattle.judge_items.proofs.ValueLaws.{mode_token}
use Rattle.judge_items.proofs.mode_given.Goals as goal

pub returns : goal.returns
returns c = mode_token c.args.w.now c.meaning_of.result c.meaning_of.ensures c.in_ok-meaning_of.field-0 c.mode_by.result c.in_ok-meaning_of.was c.mode_by.ensures

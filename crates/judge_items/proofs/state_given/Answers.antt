use Rattle.judge_items.proofs.ValueLaws.{state_token}
use Rattle.judge_items.proofs.state_given.Goals as goal

pub returns : goal.returns
returns c = state_token c.args.w.now c.meaning_of.result c.meaning_of.ensures c.in_ok-meaning_of.field-0 c.state_by.result c.in_ok-meaning_of.was c.state_by.ensures

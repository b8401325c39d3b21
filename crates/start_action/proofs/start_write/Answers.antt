use Rattle.start_action.proofs.StartLaws.{wrote_record}
use Rattle.start_action.proofs.start_write.Goals as goal

pub returns-then-any : goal.returns-then-any
returns-then-any c = search wrote_record

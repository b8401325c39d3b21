use Rattle.run_attempts.proofs.RunsToLaws.{shown_full, shown_received}
use Rattle.run_attempts.proofs.put_refused.Goals as goal

pub returns-then-wild : goal.returns-then-wild
returns-then-wild c = search shown_full

pub returns : goal.returns
returns c = search shown_received

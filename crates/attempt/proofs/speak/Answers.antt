use Rattle.attempt.proofs.ChangeLaws.{speak_session}
use Rattle.attempt.proofs.speak.Goals as goal

pub returns-in-Session : goal.returns-in-Session
returns-in-Session c = search speak_session

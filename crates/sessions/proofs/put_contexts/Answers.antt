use Rattle.std.proofs.Common.{rules}
use Rattle.sessions.proofs.PartLaws.{contexts_are}
use Rattle.sessions.proofs.put_contexts.Goals as goal

pub returns : goal.returns
returns c = search (rules, contexts_are)

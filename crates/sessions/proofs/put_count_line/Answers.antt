use Rattle.sessions.specs.Listing.{count_line}
use Rattle.base.proofs.OutLaws.{three}
use Rattle.sessions.proofs.put_count_line.Goals as goal

pub returns : goal.returns
returns c = unfold count_line in search three

use Rattle.sessions.specs.Listing.{refused_text}
use Rattle.base.proofs.OutLaws.{three}
use Rattle.sessions.proofs.put_refused.Goals as goal

pub returns : goal.returns
returns c = unfold refused_text in search three

use Rattle.sessions.proofs.EachLaws.{properties_is}
use Rattle.sessions.proofs.put_properties.Goals as goal

pub returns : goal.returns
returns c = search properties_is

use Rattle.sessions.proofs.TakenLaws.{chunk_ends}
use Rattle.listing.proofs.take_chunk.Goals as goal

pub returns : goal.returns
returns g c = search chunk_ends

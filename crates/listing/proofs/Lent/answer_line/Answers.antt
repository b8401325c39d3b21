use Rattle.std.proofs.Common.{rules}
use Rattle.listing.proofs.ListingLaws.{line_taken, line_refused, refusal_above}
use Rattle.listing.proofs.Lent.answer_line.Goals as goal
use Rattle.listing.proofs.Lent.answer_line.Goals.{in-Ok, in-Err}

pub returns : goal.returns
returns c =
    rw (← c.self.view_is) (elim c.match-a.branch [
      | in-Ok w ↦ rw (w.out-is, w.result-is) (search line_taken)
      | in-Err w ↦ rw (w.out-is, w.result-is) (search (line_refused, refusal_above, rules))
    ])

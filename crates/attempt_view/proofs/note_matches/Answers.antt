use Rattle.std.proofs.Common.{rules}
use Rattle.attempt_view.proofs.ViewLaws.{matched_part}
use Rattle.attempt_view.proofs.note_matches.Goals as goal

pub returns : goal.returns
returns c = search (matched_part, rules)

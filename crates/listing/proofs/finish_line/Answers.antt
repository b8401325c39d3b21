use Rattle.std.proofs.Common.{rules}
use Rattle.sessions.proofs.SessionLaws.{finish_none, finish_last, holds_by}
use Rattle.sessions.specs.Session.{HoldsLine}
use Rattle.listing.proofs.finish_line.Goals as goal

pub returns-then-line-eq0 : goal.returns-then-line-eq0
returns-then-line-eq0 c = search finish_none

pub returns : goal.returns
returns c =
    let hold : HoldsLine c.args.line.now.bytes c.args.line.now.held = holds_by _ _ (search rules) c.args.line.now.within c.args.line.now.unended in
    search finish_last

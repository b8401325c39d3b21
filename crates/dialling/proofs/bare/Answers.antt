use Rattle.dialling.proofs.StoreLaws.{bare_more}
use Rattle.dialling.proofs.bare.Goals as goal

pub returns : goal.returns
returns c = bare_more c.args.s.now c.args.cells.now c.string_end.result c.string_end.ensures c.in_ok-n.n c.in_ok-n.was c.if-n-s.false

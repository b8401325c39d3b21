use Rattle.map_text.proofs.PartLaws.{bounded_open}
use Rattle.map_text.proofs.alternative.Goals as goal

pub returns-in_err-q : goal.returns-in_err-q
returns-in_err-q c = rw (c.from_residual-in_err-q.ensures) (bounded_open c.args.s.now c.white.result c.white.ensures c.in_ok-p.p c.in_ok-p.was c.rest.result.now c.rest.ensures c.string_end.result c.string_end.ensures c.in_ok-n.n c.in_ok-n.was c.rest-2.result.now c.rest-2.ensures c.white-2.result c.white-2.ensures c.in_err-q.was)

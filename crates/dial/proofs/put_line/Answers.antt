use Rattle.dial.proofs.LineLaws.{line_put}
use Rattle.dial.proofs.put_line.Goals as goal

pub returns : goal.returns
returns c = search line_put

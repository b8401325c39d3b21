use Rattle.std.proofs.Common.{rules}
use Rattle.base.proofs.OutLaws.{more}
use Rattle.writer.proofs.put_bytes.Goals as goal

pub loop-b-preserved : goal.loop-b-preserved
loop-b-preserved c = search (rules, more)

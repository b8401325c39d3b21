use Rattle.table.proofs.TableLaws.{side_end}
use Rattle.table.proofs.set_side.Goals as goal

pub returns : goal.returns
returns c = side_end _ _ _ _ _ _ c.loop-j-test.false c.loop-j.auto.j-end c.loop-j.invariant

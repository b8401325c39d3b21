use Rattle.dialling.proofs.CellLaws.{among_start, among_next, among_on, among_end}
use Rattle.dialling.proofs.among.Goals.{then-cells-i-eq0, else-cells-i-eq0}
use Rattle.dialling.proofs.among.Goals as goal

pub loop-i-init : goal.loop-i-init
loop-i-init c = search among_start

pub loop-i-preserved : goal.loop-i-preserved
loop-i-preserved c =
    elim c.if-cells-i-eq0.branch [
      | then-cells-i-eq0 w ↦ rw (w.known-is, w.from-is) (search among_next)
      | else-cells-i-eq0 w ↦ rw (w.known-is, w.from-is) (search among_on)
    ]

pub returns : goal.returns
returns c = search among_end

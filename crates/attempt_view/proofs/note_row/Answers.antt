use Rattle.attempt_view.proofs.ViewLaws.{noting_on, noting_end}
use Rattle.attempt_view.proofs.note_row.Goals as goal

pub loop-i-preserved : goal.loop-i-preserved
loop-i-preserved c = noting_on _ _ _ _ c.args.row.now _ _ _ _ _ c.loop-i.invariant _ _ _ c.loop-i-test.true c.is_match.ensures c.note-n.ensures

pub returns : goal.returns
returns c = search noting_end

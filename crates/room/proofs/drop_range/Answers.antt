use Rattle.std.proofs.Common.{rules}
use Rattle.room.proofs.KeepLaws.{cut_begin, range_in, range_out, range_stop, range_end}
use Rattle.room.proofs.drop_range.Goals as goal
use Rattle.room.proofs.drop_range.Goals.{then-not-is_acked, else-not-is_acked, else-loop-i-test, then-loop-i-test+then-n-eq0}

pub loop-i-init : goal.loop-i-init
loop-i-init c = cut_begin _ _

pub loop-i-preserved : goal.loop-i-preserved
loop-i-preserved c =
    elim c.if-not-is_acked.branch [
      | then-not-is_acked w ↦ rw (w.words-is, w.p-is) (search (rules, range_in))
      | else-not-is_acked w ↦ rw (w.words-is, w.p-is) (search (rules, range_out))
    ]

pub returns : goal.returns
returns c =
    elim c.loop-i-test.branch [
      | else-loop-i-test w ↦ search (rules, range_end)
      | then-loop-i-test+then-n-eq0 w ↦ search (rules, range_stop)
    ]

use Rattle.std.proofs.Common.{rules}
use Rattle.row.proofs.WordLaws.{map_start_lem, map_next, map_fits, double_fits, map_end}
use Rattle.row.proofs.words.map_word.Goals as goal

pub loop-i-init : goal.loop-i-init
loop-i-init c = record { inside = search rules; word = map_start_lem c.args.row.now }

pub overflow_mul-w : goal.overflow_mul-w
overflow_mul-w c = search double_fits

pub overflow_add-w : goal.overflow_add-w
overflow_add-w c = search map_fits

pub loop-i-preserved : goal.loop-i-preserved
loop-i-preserved c = record { inside = search rules; word = search map_next }

pub returns : goal.returns
returns c = search map_end

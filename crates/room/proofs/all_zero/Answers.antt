use Rattle.std.proofs.Common.{rules, tests, ◌∙◌, true, ◌&&◌, nat_eq}
use Rattle.std.proofs.lemmas.Iterator.{YieldsList-from_slice}
use Rattle.std.proofs.lemmas.Iterator.Consumers.{fold_from_yields_List}
use Rattle.room.proofs.RoomLaws.{zero_fold}
use Rattle.room.proofs.all_zero.Goals as goal

pub returns : goal.returns
returns c =
    fold_from_yields_List _ (λ r x. r && nat_eq x 0) true c.fold.result c.fold.ensures.ran (YieldsList-from_slice c.args.row.now cc) (λ a x b q k. search (rules, tests))
    ∙ zero_fold c.args.row.now

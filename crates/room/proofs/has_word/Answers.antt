use Rattle.std.proofs.Common.{rules, tests, ◌∙◌, false, ◌||◌, nat_eq}
use Rattle.std.proofs.lemmas.Iterator.{YieldsList-from_slice}
use Rattle.std.proofs.lemmas.Iterator.Consumers.{fold_from_yields_List}
use Rattle.room.proofs.RoomLaws.{has_fold}
use Rattle.room.proofs.has_word.Goals as goal

pub returns : goal.returns
returns c =
    fold_from_yields_List _ (λ r x. r || nat_eq x c.args.n) false c.fold.result c.fold.ensures.ran (YieldsList-from_slice c.args.row.now cc) (λ a x b q k. search (rules, tests))
    ∙ has_fold c.args.n c.args.row.now

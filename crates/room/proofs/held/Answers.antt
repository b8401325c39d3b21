use Rattle.std.proofs.Common.{rules, tests, ◌∙◌, ap, length, nat_eq, Option, ℕ}
use Rattle.std.specs.Option.{unwrap_or}
use Rattle.std.proofs.lemmas.Iterator.{YieldsList-from_slice}
use Rattle.std.proofs.lemmas.Iterator.Search.{position_from_yields_List}
use Rattle.room.proofs.RoomLaws.{held_is}
use Rattle.room.proofs.held.Goals as goal

pub returns : goal.returns
returns c =
    c.unwrap_or.ensures
    ∙ ap (λ (o : Option ℕ). unwrap_or o (length c.args.row.now)) (position_from_yields_List (λ x. nat_eq x 0) _ _ _ c.position.ensures.ran (YieldsList-from_slice c.args.row.now cc) (λ x b q k. search (rules, tests)))
    ∙ held_is c.args.row.now

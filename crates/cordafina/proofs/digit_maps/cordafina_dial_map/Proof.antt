use Rattle.cordafina.proofs.HeadLaws.{dialled_again}
use borrow.Author.Rules.{rules}
use Rattle.cordafina.proofs.digit_maps.cordafina_dial_map.Statement.{statement}
use Rattle.cordafina.proofs.digit_maps.cordafina_dial_map.Tie as tie

pub cordafina_dial_map_spec : {M : Type 1} → statement M
cordafina_dial_map_spec =
    tie.close
    (tie.spec
    (λ c κs. search rules)
    (λ c κs. search rules)
    (λ c κs. search rules)
    (λ c. search dialled_again))

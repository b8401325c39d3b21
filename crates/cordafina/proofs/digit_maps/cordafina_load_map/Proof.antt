use Rattle.cordafina.proofs.HeadLaws.{head_keeps}
use borrow.Author.Rules.{rules}
use Rattle.cordafina.proofs.digit_maps.cordafina_load_map.Statement.{statement}
use Rattle.cordafina.proofs.digit_maps.cordafina_load_map.Tie as tie

pub cordafina_load_map_spec : {M : Type 1} → statement M
cordafina_load_map_spec =
    tie.close
    (tie.spec
    (λ c κs. search rules)
    (λ c κs. search rules)
    (λ c κs. search rules)
    (λ c. search head_keeps))

use Rattle.cordafina.proofs.HeadLaws.{dialled_plain}
use borrow.Author.Rules.{rules}
use Rattle.cordafina.proofs.digit_maps.cordafina_dial_plain.Statement.{statement}
use Rattle.cordafina.proofs.digit_maps.cordafina_dial_plain.Tie as tie

pub cordafina_dial_plain_spec : {M : Type 1} → statement M
cordafina_dial_plain_spec =
    tie.close
    (tie.spec
    (λ c κs. search rules)
    (λ c κs. search rules)
    (λ c κs. search rules)
    (λ c. search dialled_plain))

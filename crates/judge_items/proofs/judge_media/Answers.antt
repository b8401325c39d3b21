use Rattle.std.proofs.Common.{false}
use Rattle.megaco.specs.Items.{media_given, top_items}
use Rattle.read_command.specs.Places.{top_at}
use Rattle.command_places.specs.Found.{items_from}
use Rattle.judge_items.proofs.CallLaws.{all_inside, command_bare, media_some, media_none}
use Rattle.judge_items.proofs.judge_media.Goals as goal

pub returns-in-Some : goal.returns-in-Some
returns-in-Some c =
    all_inside c.args.s.now c.args.p (media_given (items_from c.args.s.now c.args.p)) (λ i. top_items (top_at c.args.s.now i).tree false c.unchanged.result) c.top_items.result c.closed.result c.in-Some.inside c.in-Some.is
    c.top_items.ensures c.closed.ensures (rw c.unchanged.ensures (media_some c.args.s.now c.args.p c.in-Some.inside c.in-Some.is))

pub returns-in-None : goal.returns-in-None
returns-in-None c = command_bare c.args.s.now c.args.p c.unchanged-in-None.result (media_given (items_from c.args.s.now c.args.p)) c.in-None.is (rw c.unchanged-in-None.ensures (media_none c.args.s.now c.args.p c.in-None.is))

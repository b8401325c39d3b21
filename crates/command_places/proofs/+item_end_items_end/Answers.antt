use Rattle.std.proofs.Common.{◌-◌, ◌∙◌}
use Rattle.read_command.specs.Places.{item_at, items_at}
use Rattle.command_places.proofs.EndLaws.{items_end_none, items_end_start}
use Rattle.command_places.proofs.+item_end_items_end.Goals as goal

pub items_end-returns-then-left-eq0 : goal.items_end-returns-then-left-eq0
items_end-returns-then-left-eq0 t c = items_end_none c.args.s.now c.args.left c.args.at c.if-left-eq0.true

pub items_end-returns : goal.items_end-returns
items_end-returns t c =
    c.list_end.ensures (λ i. (item_at (c.args.left - 1) (items_at (c.args.left - 1) c.args.s.now) c.args.s.now i).end) (λ i r k p. p) ∙ items_end_start c.args.s.now c.args.left c.args.at c.if-left-eq0.false

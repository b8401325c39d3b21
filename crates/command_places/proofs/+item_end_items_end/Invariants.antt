-- Levels left fall: items open a level, and an item and the closure are calls on the way to the next.
use Rattle.std.proofs.Common.{◌+◌, ◌*◌}
use Rattle.command_places.proofs.+item_end_items_end.Given as goal

abbrev pub decreases-items_end : goal.decreases-items_end
decreases-items_end l = 4 * l.left

abbrev pub decreases-item_end : goal.decreases-item_end
decreases-item_end l = 4 * l.left + 1

abbrev pub decreases-items_end-end : goal.decreases-items_end-end
decreases-items_end-end l = 4 * l.lower + 2

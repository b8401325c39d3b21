-- Levels left fall: braces open a level, and items, an item and its braces are calls on the way to the next.
use Rattle.std.proofs.Common.{◌+◌, ◌*◌}
use Rattle.read_command.proofs.+braced_items_item_items.Given as goal

abbrev pub decreases-braced_items : goal.decreases-braced_items
decreases-braced_items l = 4 * l.left

abbrev pub decreases-item : goal.decreases-item
decreases-item l = 4 * l.left + 1

abbrev pub decreases-items-part : goal.decreases-items-part
decreases-items-part l = 4 * l.left + 2

abbrev pub decreases-items : goal.decreases-items
decreases-items l = 4 * l.left + 3

-- Each further item takes fuel.
use Rattle.std.proofs.Common.{◌+◌, ◌*◌}
use Rattle.list_parse.proofs.lists.+list_items.Given as goal

abbrev pub decreases-list_items_from : goal.decreases-list_items_from
decreases-list_items_from l = 2 * l.fuel + 0

abbrev pub decreases-list_items_onward : goal.decreases-list_items_onward
decreases-list_items_onward l = 2 * l.fuel + 1

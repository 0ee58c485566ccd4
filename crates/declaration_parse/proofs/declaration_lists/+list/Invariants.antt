-- Each call takes less fuel, or as much and is nearer to an item.
use Rattle.std.proofs.Common.{◌+◌, ◌*◌}
use Rattle.declaration_parse.proofs.declaration_lists.+list.Given as goal

abbrev pub decreases-items : goal.decreases-items
decreases-items g l = 2 * l.fuel

abbrev pub decreases-further : goal.decreases-further
decreases-further g l = 2 * l.fuel + 1

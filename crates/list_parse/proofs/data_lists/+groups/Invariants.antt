-- Each further group takes fuel.
use Rattle.std.proofs.Common.{◌+◌}
use Rattle.list_parse.proofs.data_lists.+groups.Given as goal

abbrev pub decreases-groups_from : goal.decreases-groups_from
decreases-groups_from l = l.fuel + 0

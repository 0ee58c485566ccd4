-- Each further value takes fuel.
use Rattle.std.proofs.Common.{◌+◌, ◌*◌}
use Rattle.list_parse.proofs.data_lists.+data_values.Given as goal

abbrev pub decreases-data_values_from : goal.decreases-data_values_from
decreases-data_values_from l = 2 * l.fuel + 0

abbrev pub decreases-data_values_onward : goal.decreases-data_values_onward
decreases-data_values_onward l = 2 * l.fuel + 1

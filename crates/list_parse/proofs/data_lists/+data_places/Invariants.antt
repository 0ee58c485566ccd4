-- Each further place takes fuel.
use Rattle.std.proofs.Common.{◌+◌, ◌*◌}
use Rattle.list_parse.proofs.data_lists.+data_places.Given as goal

abbrev pub decreases-data_places_from : goal.decreases-data_places_from
decreases-data_places_from l = 2 * l.fuel + 0

abbrev pub decreases-data_places_onward : goal.decreases-data_places_onward
decreases-data_places_onward l = 2 * l.fuel + 1

use Rattle.read_sizes.proofs.Units.{each_unit_is_read_within}
use Rattle.read_sizes.proofs.within.units_are_read_within.Goals as goal

pub returns : goal.returns
returns c = each_unit_is_read_within

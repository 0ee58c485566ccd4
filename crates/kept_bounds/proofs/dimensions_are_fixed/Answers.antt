use Rattle.kept_bounds.proofs.FixedValues.{dimensions_are_fixed}
use Rattle.kept_bounds.proofs.dimensions_are_fixed.Goals as goal

pub returns : goal.returns
returns c = dimensions_are_fixed

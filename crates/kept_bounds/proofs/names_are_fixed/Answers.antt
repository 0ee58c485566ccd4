use Rattle.kept_bounds.proofs.FixedValues.{names_are_fixed}
use Rattle.kept_bounds.proofs.names_are_fixed.Goals as goal

pub returns : goal.returns
returns c = names_are_fixed

use Rattle.kept_bounds.proofs.SizeValues.{lowers_are_meant}
use Rattle.kept_bounds.proofs.lowers_are_meant.Goals as goal

pub returns : goal.returns
returns c = lowers_are_meant

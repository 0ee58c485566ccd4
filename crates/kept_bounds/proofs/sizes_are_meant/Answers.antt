use Rattle.kept_bounds.proofs.SizeValues.{sizes_are_meant}
use Rattle.kept_bounds.proofs.sizes_are_meant.Goals as goal

pub returns : goal.returns
returns c = sizes_are_meant

use Rattle.std.proofs.Common.{length}
use Rattle.unit_equations.proofs.sizes.+elements.Given as goal

abbrev pub decreases-elements : goal.decreases-elements
decreases-elements l = length l.bounds.now

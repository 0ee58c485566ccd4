use Rattle.std.proofs.Common.{length}
use Rattle.length_judge.proofs.items.+elements.Given as goal

abbrev pub decreases-elements : goal.decreases-elements
decreases-elements l = length l.bounds.now

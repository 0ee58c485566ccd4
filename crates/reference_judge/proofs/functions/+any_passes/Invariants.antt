use Rattle.std.proofs.Common.{length}
use Rattle.reference_judge.proofs.functions.+any_passes.Given as goal

abbrev pub decreases-any_passes : goal.decreases-any_passes
decreases-any_passes l = length l.uses.now

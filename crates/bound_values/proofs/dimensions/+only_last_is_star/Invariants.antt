use Rattle.std.proofs.Common.{length}
use Rattle.bound_values.proofs.dimensions.+only_last_is_star.Given as goal

abbrev pub decreases-only_last_is_star : goal.decreases-only_last_is_star
decreases-only_last_is_star l = length l.dimensions.now

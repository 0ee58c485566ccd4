use Rattle.std.proofs.Common.{length}
use Rattle.plain_names.proofs.bounds.+only_last_is_open.Given as goal

abbrev pub decreases-only_last_is_open : goal.decreases-only_last_is_open
decreases-only_last_is_open l = length l.bounds.now

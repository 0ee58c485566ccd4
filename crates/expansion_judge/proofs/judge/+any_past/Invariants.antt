use Rattle.std.proofs.Common.{length}
use Rattle.expansion_judge.proofs.judge.+any_past.Given as goal

abbrev pub decreases-any_past : goal.decreases-any_past
decreases-any_past l = length l.es.now

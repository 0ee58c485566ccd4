use Rattle.std.proofs.Common.{length}
use Rattle.expression_judge.proofs.intrinsics.+named_in.Given as goal

-- proposed from what the function passes where it calls itself
abbrev pub decreases-named_in : goal.decreases-named_in
decreases-named_in l = length l.table.now

use Rattle.std.proofs.Common.{length}
use Rattle.constant_values.proofs.functions.+named_in.Given as goal

-- proposed from what the function passes where it calls itself
abbrev pub decreases-named_in : goal.decreases-named_in
decreases-named_in l = length l.table.now

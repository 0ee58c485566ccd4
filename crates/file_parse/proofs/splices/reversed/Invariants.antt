use Rattle.std.proofs.Common.{◌≡◌, ◌++◌, length, reverse}
use Rattle.file_parse.proofs.splices.reversed.Given as goal

abbrev pub invariant-loop-item : goal.invariant-loop-item
invariant-loop-item g l = reverse l.fn.items ≡ l.turned ++ reverse l.waiting

abbrev pub decreases-loop-item : goal.decreases-loop-item
decreases-loop-item g l = length l.waiting

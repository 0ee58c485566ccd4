use Rattle.std.proofs.Common.{◌≡◌, ◌++◌}
use Rattle.unit_contents.proofs.constants.listed_constants.Given as goal

abbrev pub invariant-loop-value : goal.invariant-loop-value
invariant-loop-value l = l.constants.keys ≡ l.list.items ++ l.value-iterator

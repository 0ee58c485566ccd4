use Rattle.std.proofs.Common.{◌≡◌, Some, drop}
use Rattle.f_tree.specs.Valuing.{int_min}
use Rattle.constant_values.specs.Operands.{extreme_onward, data_of}
use Rattle.constant_values.proofs.intrinsics.smallest.Given as goal

abbrev pub invariant-loop-value : goal.invariant-loop-value
invariant-loop-value l = extreme_onward int_min l.best (data_of (drop l.value-index l.values)) ≡ extreme_onward int_min (Some l.first) (data_of l.values)

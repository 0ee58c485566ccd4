use Rattle.std.proofs.Common.{◌≡◌, ◌++◌, drop}
use Rattle.statement_lowering.specs.LoweredTransfers.{labels_passed}
use Rattle.statement_lowering.proofs.passed_labels.add_labels_passed.Given as goal

abbrev pub invariant-loop-e : goal.invariant-loop-e
invariant-loop-e l = l.labels.items ++ labels_passed l.table (drop l.e-index l.es) ≡ l.initial.labels.items ++ labels_passed l.table l.es

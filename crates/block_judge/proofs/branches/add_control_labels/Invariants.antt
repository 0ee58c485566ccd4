use Rattle.std.proofs.Common.{◌≡◌, ◌++◌, drop}
use Rattle.declaration_rows.specs.BlockRows.{labels_of_controls}
use Rattle.block_judge.proofs.branches.add_control_labels.Given as goal

abbrev pub invariant-loop-control : goal.invariant-loop-control
invariant-loop-control l = l.initial.labels.items ++ labels_of_controls l.controls ≡ l.labels.items ++ labels_of_controls (drop l.control-index l.controls)

use Rattle.std.proofs.Common.{◌≡◌, ◌++◌, drop}
use Rattle.f_tree.specs.Attributes.{from_all}
use Rattle.unit_lowering.specs.AssignedLabels.{assigned_of}
use Rattle.unit_lowering.proofs.assigned.assigned_labels.Given as goal

abbrev pub invariant-loop-statement : goal.invariant-loop-statement
invariant-loop-statement l = from_all assigned_of l.statements ≡ l.labels.items ++ from_all assigned_of (drop l.statement-index l.statements)
